-- The ends of the direct machine are those of the plan's tasks.
use Rattle.std.proofs.Common.{◌≡◌, ◌≢◌, ℕ, ◌+◌, ◌<◌, Bool, true, false, Option, Some, None, Ok, List, [], ◌∷◌, ◌++◌, arith, sym, ◌∙◌, ap, subst, refl}
use Rattle.std.specs.Prelude.{IsSome}
use Rattle.std.proofs.lemmas.Bool.{false≢true}
use Rattle.armus_base.specs.declared.ending.TaskEnd.{TaskEnd}
use Rattle.armus_base.specs.declared.ending.TaskEnd.TheVariants.{Done, Blocked, Unforked}
use Rattle.armus_base.specs.declared.event.Event.{Event}
use Rattle.armus_base.specs.Deadlocks.{IsDeadIn}
use Rattle.armus_base.specs.Finals.{end_by, end_of}
use Rattle.armus_base.specs.Places.{done_by, forked_at}
use Rattle.armus_base.specs.Plans.{maker_of, parent_of}
use Rattle.armus_base.specs.Runs.{IsFinal, places}
use Rattle.armus_base.specs.States.{State, Step, event_at}
use Rattle.armus_base.proofs.Fixed.{forked_later}
use Rattle.armus_base.proofs.OneEnd.{below_maximal}
use Rattle.armus_base.proofs.Stepping.{places_fix}
use Rattle.clock_syntax.specs.Trees.{ClockTree}
use Rattle.clock_semantics.specs.Moves.{Move, advances, ends}
use Rattle.clock_semantics.specs.Unfolding.{ClockUnfolding, activities, clock_unfolded, plan_of_moves}
use Rattle.clock_laws.specs.calls.Direct.{ClockState, StandsAs, direct_opening, has_ended, unstarted, waits_at_advance, waits_at_end}
use Rattle.clock_laws.specs.calls.Laws.{DirectEndsAreExact, DirectEndsAreThoseOfTasks, EndsExactly, HasEndedIn, IsDirectEnd, IsDirectRun, NoClockTaskIsHeld, NoneIsUnforkedUnderDone, StartedAreForked, WaitsAtAdvance, WaitsAtEnd, moves_of}
use Rattle.clock_laws.proofs.Lawful.{AreLawfulMoves, ClockKinds}
use Rattle.clock_laws.proofs.ClockRuns.{is_clock, is_finish, runs_end}
use Rattle.clock_laws.proofs.Ending.{blocked_is_dead, child_of_done, final_is, stands_last}
use Rattle.clock_laws.proofs.Entries.{some_is}
use Rattle.clock_laws.proofs.LawfulMoves.{kinds_now, plan_is_of_moves}
use Rattle.clock_laws.proofs.Matching.{Matches}
use Rattle.clock_laws.proofs.Simulating.{IsPlanOfMoves, run_follows}

-- the event of a blocked end
event_of : TaskEnd → Option Event
event_of (Blocked e) = Some e
event_of x = None

event_phaser : Option Event → ℕ → ℕ
event_phaser None d = d
event_phaser (Some e) d = e.p.0

event_phase : Option Event → ℕ → ℕ
event_phase None d = d
event_phase (Some e) d = e.n

module _ (p q m n : ℕ) (e : ◌≡◌ {A = TaskEnd} (Blocked (event_at p m)) (Blocked (event_at q n))) where
  same_phaser : p ≡ q
  unfolding event_of event_phaser
  same_phaser = ap (λ x. event_phaser (event_of x) p) e

  same_phase : m ≡ n
  unfolding event_of event_phase
  same_phase = ap (λ x. event_phase (event_of x) m) e

module _ (u : ClockUnfolding) (clock : ClockKinds) (of : IsPlanOfMoves (plan_of_moves u) clock (moves_of u)) (s : ClockState) (h : List Step)
    (matches : Matches (plan_of_moves u) clock s h) (t : ℕ) where
  finish_here : (f : ℕ) (ms : List Move) → s.left t ≡ ends f ∷ ms → clock.is f ≡ false
  finish_here f ms is =
      (let lawful = subst (AreLawfulMoves clock (maker_of (plan_of_moves u)) t (matches.left t).standing) is (matches.left t).lawful in lawful.0.0)

  clock_here : (p : ℕ) (ms : List Move) → s.left t ≡ advances p ∷ ms → clock.is p ≡ true
  clock_here p ms is =
      (let lawful = subst (AreLawfulMoves clock (maker_of (plan_of_moves u)) t (matches.left t).standing) is (matches.left t).lawful in lawful.0)

  ended_done : (x : TaskEnd) → StandsAs s t x → HasEndedIn s t → x ≡ Done
  ended_done x (unstarted idle) w = absurd (false≢true (sym idle ∙ w.0))
  ended_done x (has_ended started over) w = refl
  ended_done x (waits_at_advance p k ms started left memory) w = absurd (let l = w.1 in cc)
  ended_done x (waits_at_end f ms started left) w = absurd (let l = w.1 in cc)

  done_ended : (x : TaskEnd) → StandsAs s t x → x ≡ Done → HasEndedIn s t
  done_ended x (unstarted idle) e = absurd (cc)
  done_ended x (has_ended started over) e = (started, over)
  done_ended x (waits_at_advance p k ms started left memory) e = absurd (cc)
  done_ended x (waits_at_end f ms started left) e = absurd (cc)

  idle_unforked : (x : TaskEnd) → StandsAs s t x → s.started t ≡ false → x ≡ Unforked
  idle_unforked x (unstarted idle) w = refl
  idle_unforked x (has_ended started over) w = absurd (false≢true (sym w ∙ started))
  idle_unforked x (waits_at_advance p k ms started left memory) w = absurd (false≢true (sym w ∙ started))
  idle_unforked x (waits_at_end f ms started left) w = absurd (false≢true (sym w ∙ started))

  unforked_idle : (x : TaskEnd) → StandsAs s t x → x ≡ Unforked → s.started t ≡ false
  unforked_idle x (unstarted idle) e = idle
  unforked_idle x (has_ended started over) e = absurd (cc)
  unforked_idle x (waits_at_advance p k ms started left memory) e = absurd (cc)
  unforked_idle x (waits_at_end f ms started left) e = absurd (cc)

  advance_blocked : (q j : ℕ) (x : TaskEnd) → StandsAs s t x → WaitsAtAdvance s t q j → x ≡ Blocked (event_at q (j + 1))
  advance_blocked q j x (unstarted idle) w = absurd (false≢true (sym idle ∙ w.0))
  advance_blocked q j x (has_ended started over) w = absurd (let l = w.1.1 in cc)
  advance_blocked q j x (waits_at_advance p k ms started left memory) w =
      let both : advances p ∷ ms ≡ advances q ∷ w.1.0 = sym left ∙ w.1.1 in
      let same : p ≡ q = (cc) in
      let phase : k ≡ j = some_is (sym memory ∙ ap (λ v. s.remembered v t) same ∙ w.2) in
      ap (λ v. Blocked (event_at v (k + 1))) same ∙ ap (λ v. Blocked (event_at q (v + 1))) phase
  advance_blocked q j x (waits_at_end f ms started left) w =
      absurd (let both : ends f ∷ ms ≡ advances q ∷ w.1.0 = sym left ∙ w.1.1 in cc)

  blocked_advance : (q j : ℕ) → clock.is q ≡ true → (x : TaskEnd) → StandsAs s t x → x ≡ Blocked (event_at q (j + 1)) → WaitsAtAdvance s t q j
  blocked_advance q j is x (unstarted idle) e = absurd (cc)
  blocked_advance q j is x (has_ended started over) e = absurd (cc)
  blocked_advance q j is x (waits_at_advance p k ms started left memory) e =
      let same = same_phaser p q (k + 1) (j + 1) e in
      let phase : k ≡ j = omega (arith, same_phase p q (k + 1) (j + 1) e) in
      (started, (ms, left ∙ ap (λ v. advances v ∷ ms) same), ap (λ v. s.remembered v t) (sym same) ∙ memory ∙ ap Some phase)
  blocked_advance q j is x (waits_at_end f ms started left) e =
      absurd (false≢true (sym (finish_here f ms left) ∙ ap clock.is (same_phaser f q 1 (j + 1) e) ∙ is))

  end_blocked : (g : ℕ) (x : TaskEnd) → StandsAs s t x → WaitsAtEnd s t g → x ≡ Blocked (event_at g 1)
  end_blocked g x (unstarted idle) w = absurd (false≢true (sym idle ∙ w.0))
  end_blocked g x (has_ended started over) w = absurd (let l = w.1.1 in cc)
  end_blocked g x (waits_at_advance p k ms started left memory) w =
      absurd (let both : advances p ∷ ms ≡ ends g ∷ w.1.0 = sym left ∙ w.1.1 in cc)
  end_blocked g x (waits_at_end f ms started left) w =
      let both : ends f ∷ ms ≡ ends g ∷ w.1.0 = sym left ∙ w.1.1 in
      let same : f ≡ g = (cc) in
      ap (λ v. Blocked (event_at v 1)) same

  blocked_end : (g : ℕ) → clock.is g ≡ false → (x : TaskEnd) → StandsAs s t x → x ≡ Blocked (event_at g 1) → WaitsAtEnd s t g
  blocked_end g is x (unstarted idle) e = absurd (cc)
  blocked_end g is x (has_ended started over) e = absurd (cc)
  blocked_end g is x (waits_at_advance p k ms started left memory) e =
      absurd (false≢true (sym is ∙ ap clock.is (sym (same_phaser p g (k + 1) 1 e)) ∙ clock_here p ms left))
  blocked_end g is x (waits_at_end f ms started left) e = (started, (ms, left ∙ ap (λ v. ends v ∷ ms) (same_phaser f g 1 1 e)))

  exactly : (x : TaskEnd) → StandsAs s t x → EndsExactly u s t x
  exactly x stands =
      record {
        ended = (ended_done x stands, done_ended x stands);
        at_advance = λ p k has. (advance_blocked p k x stands, blocked_advance p k (is_clock u clock of p has) x stands);
        at_end = λ f has. (end_blocked f x stands, blocked_end f (is_finish u clock of f has) x stands);
        unstarted = (idle_unforked x stands, unforked_idle x stands);
      }

-- ---- the laws

module _ (p : ClockTree) (u : ClockUnfolding) (e : clock_unfolded p ≡ Ok u) where
  abbrev Of : IsPlanOfMoves (plan_of_moves u) (kinds_now p u e) (moves_of u)
  Of = plan_is_of_moves p u e

  matched : (ts : List ℕ) (s : ClockState) → IsDirectRun u ts s → (h : List Step) × Matches (plan_of_moves u) (kinds_now p u e) s h
  matched ts s run = run_follows (plan_of_moves u) (kinds_now p u e) (moves_of u) Of ts s run

  stands_in : (s : ClockState) → IsDirectEnd u s → (σ : State) → IsFinal (plan_of_moves u) σ → (t : ℕ) → t < activities u → StandsAs s t (end_of σ t)
  stands_in s end σ final t l =
      let m = matched end.steps s end.run in
      subst (λ v. StandsAs s t (end_of v t)) (sym (final_is (plan_of_moves u) (kinds_now p u e) (moves_of u) Of s m.0 m.1 end.at_rest σ final))
      (stands_last (plan_of_moves u) (kinds_now p u e) (moves_of u) Of s m.0 m.1 end.at_rest t l)

  -- there is an end
  some_end : (s : ClockState) × IsDirectEnd u s
  some_end =
      (let c = runs_end p u [] (direct_opening (moves_of u)) e refl in
      (c.1, record { steps = c.0 ++ []; run = c.2; at_rest = c.3 }))

pub ends_are_those_of_tasks : DirectEndsAreThoseOfTasks
ends_are_those_of_tasks p u s σ t e end final l = stands_in p u e s end σ final t l

pub ends_are_exact : DirectEndsAreExact
ends_are_exact p u s σ t e end final l =
    let m = matched p u e end.steps s end.run in
    exactly u (kinds_now p u e) (plan_is_of_moves p u e) s m.0 m.1 t (end_of σ t) (stands_in p u e s end σ final t l)

not_unforked : (σ : State) (t : ℕ) → σ.forked t ≡ true → end_of σ t ≢ Unforked
not_unforked σ t f e = go (σ.forked t) (σ.published t) (σ.refused t) f e
  where
    go : (forked : Bool) (published refused : Option Event) → forked ≡ true → end_by forked published refused ≢ Unforked
    go forked (Some d) refused f e = absurd (cc)
    go forked None (Some d) f e = absurd (cc)
    go true None None f e = absurd (cc)
    go false None None f e = absurd (false≢true f)

pub started_are_forked : StartedAreForked
started_are_forked p u ts s σ t e run final started =
    let of = plan_is_of_moves p u e in
    let m = matched p u e ts s run in
    let at_m = places_fix (plan_of_moves u) of.checked m.0 m.1.run.0 in
    let at_f = places_fix (plan_of_moves u) of.checked final.steps final.run.0 in
    let forked : forked_at (plan_of_moves u) (done_by (places m.0)) t ≡ true = ap (λ z. z.forked t) (sym at_m.0) ∙ sym (m.1.started t) ∙ started in
    not_unforked σ t
    (ap (λ z. z.forked t) (sym final.there) ∙ ap (λ z. z.forked t) at_f.0
    ∙ forked_later (plan_of_moves u) (done_by (places m.0)) (done_by (places final.steps)) t
    (below_maximal (plan_of_moves u) of.checked final.steps final.run final.maximal m.0 m.1.run) forked)

pub none_is_unforked_under_done : NoneIsUnforkedUnderDone
none_is_unforked_under_done p u σ c e final some l done =
    let of = plan_is_of_moves p u e in
    let end = some_end p u e in
    let m = matched p u e end.1.steps end.0 end.1.run in
    let is = final_is (plan_of_moves u) (kinds_now p u e) (moves_of u) of end.0 m.0 m.1 end.1.at_rest σ final in
    not_unforked σ c
    (ap (λ z. z.forked c) is
    ∙ child_of_done (plan_of_moves u) (kinds_now p u e) (moves_of u) of end.0 m.0 m.1 end.1.at_rest c some l
    (ap (λ z. end_of z (parent_of (plan_of_moves u) c)) (sym is) ∙ done))

pub no_task_is_held : NoClockTaskIsHeld
no_task_is_held p u σ t e final held =
    let of = plan_is_of_moves p u e in
    let end = some_end p u e in
    let m = matched p u e end.1.steps end.0 end.1.run in
    let is = final_is (plan_of_moves u) (kinds_now p u e) (moves_of u) of end.0 m.0 m.1 end.1.at_rest σ final in
    let on = published_on (σ.published t) held.0 in
    held.1
    (subst (λ z. IsDeadIn z t) (sym is)
    (blocked_is_dead (plan_of_moves u) (kinds_now p u e) (moves_of u) of end.0 m.0 m.1 end.1.at_rest t on.0 (ap (λ z. z.published t) (sym is) ∙ on.1)))
  where
    published_on : (o : Option Event) → IsSome o → (d : Event) × (o ≡ Some d)
    published_on None is = absurd (false≢true is)
    published_on (Some d) is = (d, refl)
