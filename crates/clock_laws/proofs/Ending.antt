-- Where the direct machine can make no step, the plan's run goes on to a maximal one: each waiting task publishes its event.
use Rattle.std.proofs.Common.{◌≡◌, ◌≢◌, ℕ, zero, suc, ◌+◌, ◌<◌, ◌≤◌, Bool, true, false, Option, Some, None, List, [], ◌∷◌, length, drop, arith, sym, ◌∙◌, ap, subst, refl, inl, inr}
use Rattle.std.specs.Prelude.{if◌then◌else◌, is_some, slice_get, IsTrue}
use Rattle.std.specs.Option.{option_map}
use Rattle.std.proofs.lemmas.Bool.{cases_Bool, cases_eq, cases_lt, eq-eqb, false≢true, lt-ltb}
use Rattle.std.proofs.lemmas.Option.{slice_get_within}
use Rattle.armus_base.specs.declared.ending.TaskEnd.TheVariants.{Done, Blocked}
use Rattle.armus_base.specs.declared.event.Event.{Event}
use Rattle.armus_base.specs.declared.op.Op.{Op}
use Rattle.armus_base.specs.declared.offset.Offset.TheVariants.{Here}
use Rattle.armus_base.specs.Offsets.{target}
use Rattle.armus_base.specs.Deadlocks.{IsAtPhase, IsDeadIn, IsImpededWithin, IsPublishedOn}
use Rattle.armus_base.specs.Finals.{end_by, end_of}
use Rattle.armus_base.specs.Plans.{Action, Advances, Blocks, Drops, Forks, Passes, Plan, action_at, actions, actions_of, maker_of, parent_of}
use Rattle.armus_base.specs.calls.Plans.{here}
use Rattle.armus_base.specs.States.{IsReached, State, Step, awaited, event_at, event_on, next_phase}
use Rattle.armus_base.specs.Runs.{HasEnded, IsFinal, IsMaximal, IsPlainRun, is_done, is_waiting, places, state_after}
use Rattle.armus_base.specs.Places.{done_by, some_before}
use Rattle.armus_base.proofs.Fixed.{action_within, forked_at_from, some_before_is}
use Rattle.armus_base.proofs.ForkedTasks.{forked_within}
use Rattle.armus_base.proofs.Members.{published_member}
use Rattle.armus_base.proofs.OneEnd.{one_end}
use Rattle.armus_base.proofs.Steps.{updated_other, updated_same, with_phase_other, with_phase_same}
use Rattle.armus_base.proofs.Stepping.{places_fix}
use Rattle.armus_base.proofs.Tasks.{member_within}
use Rattle.clock_semantics.specs.Moves.{Move, after_move, code_from, opens, starts, advances, resumes, drops, begins, ends, stops}
use Rattle.clock_laws.specs.calls.Direct.{ClockState, IsClockEnd, StandsAs, advance_of, clock_step, forgetting, going, has_ended, move_of, settled, unstarted, waits_at_advance, waits_at_end}
use Rattle.clock_laws.proofs.Lawful.{AreLawfulMoves, ClockKinds}
use Rattle.clock_laws.proofs.Acting.{actions_left, next_legal_here, step_of, unrefused}
use Rattle.clock_laws.proofs.Cells.{finish_phase, member_enrolled, open_phase, remembers_below, unsignalled_phase}
use Rattle.clock_laws.proofs.Leaving.{member_of_nothing}
use Rattle.clock_laws.proofs.Matching.{Goes, Matches, goes_first, goes_on}
use Rattle.clock_laws.proofs.Simulating.{IsPlanOfMoves, advance_actions, leaves_all_phasers}

-- why an activity can make no step
pub data Stopped (T : ℕ) (s : ClockState) (t : ℕ) : Type 0 where
  not_begun : s.started t ≡ false → Stopped T s t
  is_over : s.started t ≡ true → s.left t ≡ [] → Stopped T s t
  at_advance :
      (p k : ℕ) (ms : List Move) → s.started t ≡ true → s.left t ≡ advances p ∷ ms → s.remembered p t ≡ Some k → s.phase p ≤ k → Stopped T s t
  at_end : (f : ℕ) (ms : List Move) → s.started t ≡ true → s.left t ≡ ends f ∷ ms → some_before (s.open_set f) T ≡ true → Stopped T s t

module _ (T : ℕ) (s : ClockState) (t : ℕ) where
  by_memory :
      (p : ℕ) (ms : List Move) → s.started t ≡ true → s.left t ≡ advances p ∷ ms → (o : Option ℕ) → s.remembered p t ≡ o →
      option_map (settled T) (advance_of t p ms o s) ≡ None → Stopped T s t
  by_memory p ms started is None memory e = absurd (cc)
  by_memory p ms started is (Some k) memory e =
      elim (cases_lt k (s.phase p)) [
        | inl above ↦
            absurd (let some : Some (settled T (going t ms (forgetting t p s))) ≡ None =
            sym (ap (λ b. option_map (settled T) (if b then Some (going t ms (forgetting t p s)) else None)) (lt-ltb k (s.phase p) above)) ∙ e in cc)
        | inr below ↦ at_advance p k ms started is memory below
      ]

  by_moves : (ms : List Move) → s.started t ≡ true → s.left t ≡ ms → option_map (settled T) (move_of T t ms s) ≡ None → Stopped T s t
  by_moves [] started is e = is_over started is
  by_moves (opens p ∷ ms) started is e = absurd (cc)
  by_moves (starts c ps f ∷ ms) started is e = absurd (cc)
  by_moves (advances p ∷ ms) started is e = by_memory p ms started is (s.remembered p t) refl e
  by_moves (resumes p ∷ ms) started is e = absurd (cc)
  by_moves (drops p ∷ ms) started is e = absurd (cc)
  by_moves (begins f ∷ ms) started is e = absurd (cc)
  by_moves (ends f ∷ ms) started is e =
      elim (cases_Bool (some_before (s.open_set f) T)) [
        | inl some ↦ at_end f ms started is some
        | inr none ↦
            absurd (let more : Some (settled T (going t ms s)) ≡ None =
            sym (ap (λ b. option_map (settled T) (if b then None else Some (going t ms s))) none) ∙ e in cc)
      ]
  by_moves (stops ps ∷ ms) started is e = absurd (cc)

  pub stopped : clock_step T t s ≡ None → Stopped T s t
  stopped e =
      elim (cases_Bool (s.started t)) [
        | inl started ↦
            by_moves (s.left t) started refl
            (sym (ap (λ b. if b then option_map (settled T) (move_of T t (s.left t) s) else None) started) ∙ e)
        | inr idle ↦ not_begun idle
      ]

-- on which event a task is published behind its await
published_by :
    (g : List Step) (t p n : ℕ) → (state_after g).phases t p ≡ Some n → (state_after (step_of t (Blocks (here p)) ∷ g)).published t ≡ Some (event_at p n)
published_by g t p n phase =
    updated_same (state_after g).published t t (awaited (Some (Blocks (here p))) ((state_after g).phases t)) refl
    ∙ ap (λ o. event_on p (option_map (target Here) o)) phase

published_other :
    (g : List Step) (t p u : ℕ) → u ≢ t → (state_after (step_of t (Blocks (here p)) ∷ g)).published u ≡ (state_after g).published u
published_other g t p u other = updated_other (state_after g).published t u (awaited (Some (Blocks (here p))) ((state_after g).phases t)) other

-- nothing is left of a list where no element follows
pub drop_end : {A : Type 0} (k : ℕ) (xs : List A) → drop k xs ≡ [] → slice_get xs k ≡ None × length xs ≤ k
drop_end k [] e = (refl, omega arith)
drop_end zero (x ∷ xs) e = absurd (cc)
drop_end (suc k) (x ∷ xs) e = (let l = drop_end k xs e in (l.0, omega (arith, l.1)))

module _ (plan : Plan) (clock : ClockKinds) (moves : ℕ → List Move) (of : IsPlanOfMoves plan clock moves) (s : ClockState) (h : List Step)
    (matches : Matches plan clock s h) (at_rest : IsClockEnd (length plan.parents) s) where
  -- a member that holds the event back, and has the same phase however the run goes on
  pub record HoldsBack (e : Event) : Type 0 where
    pub by : ℕ
    pub phase : ℕ
    pub member : (state_after h).phases by e.p.0 ≡ Some phase
    pub below : phase < e.n
    pub stays : clock.is e.p.0 ≡ false → by ≢ maker_of plan e.p.0

  -- how the task of an activity stands at the end
  pub data Closes (g : List Step) (u : ℕ) : Type 0 where
    unstarted_task : s.started u ≡ false → (state_after g).published u ≡ None → Closes g u
    done_task : s.started u ≡ true → s.left u ≡ [] → actions_left plan g u ≡ [] → (state_after g).published u ≡ None → Closes g u
    blocked_task :
        (e : Event) → StandsAs s u (Blocked e) → s.started u ≡ true → (state_after g).published u ≡ Some e → HoldsBack e → Closes g u

  -- each waiting task with a number below n has published its event
  pub record Closing (n : ℕ) (g : List Step) : Type 0 where
    pub run : IsPlainRun plan g
    pub forked : (u : ℕ) → (state_after g).forked u ≡ (state_after h).forked u
    pub phases : (u p : ℕ) → (clock.is p ≡ false → u ≢ maker_of plan p) → (state_after g).phases u p ≡ (state_after h).phases u p
    pub later_published : (u : ℕ) → n ≤ u → (state_after g).published u ≡ None
    pub later_phases : (u p : ℕ) → n ≤ u → (state_after g).phases u p ≡ (state_after h).phases u p
    pub later_left : (u : ℕ) → n ≤ u → actions_left plan g u ≡ actions_left plan h u
    pub closed : (u : ℕ) → u < n → Closes g u

  begins_closing : Closing 0 h
  begins_closing =
      record {
        run = matches.run;
        forked = λ u. refl;
        phases = λ u p n. refl;
        later_published = λ u l. matches.quiet u;
        later_phases = λ u p l. refl;
        later_left = λ u l. refl;
        closed = λ u l. absurd (omega arith);
      }

  -- what was said of an earlier task stays
  closes_stays :
      (g g' : List Step) (u : ℕ) → (state_after g').published u ≡ (state_after g).published u → actions_left plan g' u ≡ actions_left plan g u →
      Closes g u → Closes g' u
  closes_stays g g' u same left (unstarted_task idle quiet) = unstarted_task idle (same ∙ quiet)
  closes_stays g g' u same left (done_task started over none quiet) = done_task started over (left ∙ none) (same ∙ quiet)
  closes_stays g g' u same left (blocked_task e stands started published holds) = blocked_task e stands started (same ∙ published) holds

  below_more : (n : ℕ) (P : ℕ → Type 0) → ((u : ℕ) → u < n → P u) → P n → (u : ℕ) → u < suc n → P u
  below_more n P below here u l = elim (cases_eq u n) [ inl same ↦ subst P (sym same) here | inr other ↦ below u (omega arith) ]

  module _ (n : ℕ) (g : List Step) (c : Closing n g) where
    -- a task that does nothing more
    rests : Closes g n → Closing (suc n) g
    rests here =
        record {
          run = c.run;
          forked = c.forked;
          phases = c.phases;
          later_published = λ u l. c.later_published u (omega arith);
          later_phases = λ u p l. c.later_phases u p (omega arith);
          later_left = λ u l. c.later_left u (omega arith);
          closed = below_more n (Closes g) c.closed here;
        }

    -- one that publishes its event
    publishes :
        (g' : List Step) (xs : List Action) → Goes plan n g g' xs → (state_after g').forked ≡ (state_after g).forked →
        ((u : ℕ) → u ≢ n → (state_after g').published u ≡ (state_after g).published u) →
        ((u p : ℕ) → (clock.is p ≡ false → u ≢ maker_of plan p) → (state_after g').phases u p ≡ (state_after g).phases u p) →
        ((u p : ℕ) → u ≢ n → (state_after g').phases u p ≡ (state_after g).phases u p) → Closes g' n → Closing (suc n) g'
    publishes g' xs goes forks published phases others here =
        record {
          run = goes.run;
          forked = λ u. ap (λ f. f u) forks ∙ c.forked u;
          phases = λ u p l. phases u p l ∙ c.phases u p l;
          later_published = λ u l. published u (λ e. absurd (omega arith)) ∙ c.later_published u (omega arith);
          later_phases = λ u p l. others u p (λ e. absurd (omega arith)) ∙ c.later_phases u p (omega arith);
          later_left = λ u l. goes.rest u (λ e. absurd (omega arith)) ∙ c.later_left u (omega arith);
          closed = below_more n (Closes g') (λ u l. closes_stays g g' u (published u (λ e. absurd (omega arith))) (goes.rest u (λ e. absurd (omega arith))) (c.closed u l)) here;
        }

    forked_now : s.started n ≡ true → (state_after g).forked n ≡ true
    forked_now started = c.forked n ∙ sym (matches.started n) ∙ started

    left_now : (ms : List Move) → s.left n ≡ ms → actions_left plan g n ≡ actions_of (code_from (matches.left n).standing ms)
    left_now ms is = c.later_left n (omega arith) ∙ (matches.left n).code ∙ ap (λ v. actions_of (code_from (matches.left n).standing v)) is

    closes_at_advance :
        (p k : ℕ) (ms : List Move) → s.started n ≡ true → s.left n ≡ advances p ∷ ms → s.remembered p n ≡ Some k → s.phase p ≤ k →
        (g' : List Step) × Closing (suc n) g'
    closes_at_advance p k ms started is memory waits =
        let l = matches.left n in
        let lawful = subst (AreLawfulMoves clock (maker_of plan) n l.standing) is l.lawful in
        let pending : l.standing.pending p ≡ true = l.pending p ∙ ap is_some memory in
        let rest : List Op = code_from (after_move (advances p) l.standing) ms in
        let xs : List Action = actions_of rest in
        let left : actions_left plan g n ≡ Blocks (here p) ∷ (Passes p ∷ xs) =
        left_now (advances p ∷ ms) is ∙ ap (λ b. advance_actions b p rest) pending in
        let phase_h : (state_after h).phases n p ≡ Some (k + 1) = remembers_below (matches.cells p n) k memory in
        let phase : (state_after g).phases n p ≡ Some (k + 1) = c.later_phases n p (omega arith) ∙ phase_h in
        let goes = goes_first plan of.checked n g (Blocks (here p) ∷ (Passes p ∷ xs)) c.run left in
        let holder = matches.live p n (member_enrolled (matches.cells p n) lawful.0 (k + 1) phase_h) in (
          step_of n (Blocks (here p)) ∷ g,
          publishes (step_of n (Blocks (here p)) ∷ g) (Passes p ∷ xs)
              (goes_on plan of.checked n g g (Blocks (here p)) (Passes p ∷ xs) goes
              (next_legal_here plan of.checked g c.run n (Blocks (here p)) (Passes p ∷ xs) left (forked_now started) (c.later_published n (omega arith))))
              refl (published_other g n p)
              (λ u q no. refl) (λ u q other. refl)
              (blocked_task (event_at p (k + 1)) (waits_at_advance p k ms started is memory) started
              (published_by g n p (k + 1) phase)
              (record {
                by = holder.0;
                phase = s.phase p;
                member = unsignalled_phase (matches.cells p holder.0) holder.1;
                below = omega arith;
                stays = λ finish. absurd (false≢true (sym finish ∙ lawful.0));
              })),
        )

    closes_at_end :
        (f : ℕ) (ms : List Move) → s.started n ≡ true → s.left n ≡ ends f ∷ ms → some_before (s.open_set f) (length plan.parents) ≡ true →
        (g' : List Step) × Closing (suc n) g'
    closes_at_end f ms started is some =
        let l = matches.left n in
        let lawful = subst (AreLawfulMoves clock (maker_of plan) n l.standing) is l.lawful in
        let xs : List Action = Passes f ∷ (Drops f ∷ actions_of (code_from (after_move (ends f) l.standing) ms)) in
        let left : actions_left plan g n ≡ Advances f ∷ (Blocks (here f) ∷ xs) = left_now (ends f ∷ ms) is in
        let legal = next_legal_here plan of.checked g c.run n (Advances f) (Blocks (here f) ∷ xs) left (forked_now started) (c.later_published n (omega arith)) in
        let member = legal.1 in
        let first : (state_after g).phases n f ≡ Some 0 =
        c.later_phases n f (omega arith)
        ∙ finish_phase (matches.cells f n) lawful.0.0 member.0 (sym (c.later_phases n f (omega arith)) ∙ member.1) in
        let a : List Step = step_of n (Advances f) ∷ g in
        let goes_a = goes_on plan of.checked n g g (Advances f) (Blocks (here f) ∷ xs) (goes_first plan of.checked n g (Advances f ∷ (Blocks (here f) ∷ xs)) c.run left) legal in
        let goes_b = goes_on plan of.checked n g a (Blocks (here f)) xs goes_a
        (next_legal_here plan of.checked a goes_a.run n (Blocks (here f)) xs goes_a.own (forked_now started) (c.later_published n (omega arith))) in
        let phase : (state_after a).phases n f ≡ Some 1 =
        with_phase_same (state_after g).phases n f (next_phase ((state_after g).phases n f)) ∙ ap next_phase first in
        let waiting = some_before_is (s.open_set f) (length plan.parents) some in
        let holder = open_phase (matches.cells f waiting.0) waiting.2 in (
          step_of n (Blocks (here f)) ∷ a,
          publishes (step_of n (Blocks (here f)) ∷ a) xs goes_b refl (published_other a n f)
              (λ u q own. with_phase_other (state_after g).phases n f (next_phase ((state_after g).phases n f)) u q
              (λ same here. absurd (own (ap clock.is here ∙ lawful.0.0) (same ∙ sym lawful.0.1 ∙ ap (maker_of plan) (sym here)))))
              (λ u q other. with_phase_other (state_after g).phases n f (next_phase ((state_after g).phases n f)) u q (λ same. absurd (other same)))
              (blocked_task (event_at f 1) (waits_at_end f ms started is) started (published_by a n f 1 phase)
              (record {
                by = waiting.0;
                phase = 0;
                member = holder.0;
                below = omega arith;
                stays = λ finish same. absurd (false≢true (sym holder.1 ∙ eq-eqb waiting.0 (maker_of plan f) same));
              })),
        )

    closes_next : Stopped (length plan.parents) s n → (g' : List Step) × Closing (suc n) g'
    closes_next (not_begun idle) = (g, rests (unstarted_task idle (c.later_published n (omega arith))))
    closes_next (is_over started over) = (g, rests (done_task started over (left_now [] over) (c.later_published n (omega arith))))
    closes_next (at_advance p k ms started is memory waits) = closes_at_advance p k ms started is memory waits
    closes_next (at_end f ms started is some) = closes_at_end f ms started is some

  closes_below : (n : ℕ) → (g : List Step) × Closing n g
  closes_below zero = (h, begins_closing)
  closes_below (suc n) = (let before = closes_below n in closes_next n before.0 before.1 (stopped (length plan.parents) s n (at_rest n)))

  -- the run that has ended
  pub last_run : List Step
  last_run = (closes_below (length plan.parents)).0

  pub is_closed : Closing (length plan.parents) last_run
  unfolding last_run
  is_closed = (closes_below (length plan.parents)).1

  task_within : (t : ℕ) → (state_after last_run).forked t ≡ true → t < length plan.parents
  task_within t f =
      forked_within plan (elim (cases_lt 0 (length plan.parents)) [
        | inl l ↦ l
        | inr l ↦ absurd (let within = slice_get_within plan.parents 0 None of.checked.tables.root in omega arith)
      ]) last_run is_closed.run.0 t f

  held_back : (e : Event) → HoldsBack e → IsReached (state_after last_run) e → ⊥
  held_back e holds reached =
      (let l = reached holds.by holds.phase (is_closed.phases holds.by e.p.0 holds.stays ∙ holds.member) in let b = holds.below in absurd (omega arith))

  has_closed : (t : ℕ) → (state_after last_run).forked t ≡ true → Closes last_run t → HasEnded plan (state_after last_run) (places last_run t) t
  unfolding action_at
  has_closed t f (unstarted_task idle quiet) = absurd (false≢true (sym idle ∙ matches.started t ∙ sym (is_closed.forked t) ∙ f))
  has_closed t f (done_task started over none quiet) = is_done ((drop_end (places last_run t).done (actions plan t) none).0)
  has_closed t f (blocked_task e stands started published holds) = is_waiting e published (held_back e holds)

  pub is_maximal : IsMaximal plan last_run
  is_maximal t f = has_closed t f (is_closed.closed t (task_within t f))

  unrefused_last : (t : ℕ) → (state_after last_run).refused t ≡ None
  unrefused_last t = unrefused plan of.checked last_run is_closed.run t (Passes 0) []

  stands_by :
      (t : ℕ) (forked : Bool) (published refused : Option Event) → (state_after last_run).forked t ≡ forked → (state_after last_run).published t ≡ published →
      (state_after last_run).refused t ≡ refused → Closes last_run t → StandsAs s t (end_by forked published refused)
  stands_by t forked published (Some r) f p q c = absurd (let none = unrefused_last t in cc)
  stands_by t true None None f p q (unstarted_task idle quiet) = absurd (false≢true (sym idle ∙ matches.started t ∙ sym (is_closed.forked t) ∙ f))
  stands_by t false None None f p q (unstarted_task idle quiet) = unstarted idle
  stands_by t forked (Some e) None f p q (unstarted_task idle quiet) = absurd (cc)
  stands_by t true None None f p q (done_task started over none quiet) = has_ended started over
  stands_by t false None None f p q (done_task started over none quiet) = absurd (false≢true (sym f ∙ is_closed.forked t ∙ sym (matches.started t) ∙ started))
  stands_by t forked (Some e) None f p q (done_task started over none quiet) = absurd (cc)
  stands_by t forked None None f p q (blocked_task e stands started published holds) = absurd (cc)
  stands_by t forked (Some d) None f p q (blocked_task e stands started published holds) =
      subst (λ v. StandsAs s t (Blocked v)) (let both : Some e ≡ Some d = sym published ∙ p in cc) stands

  -- each activity stands as its task has ended
  pub stands_last : (t : ℕ) → t < length plan.parents → StandsAs s t (end_of (state_after last_run) t)
  stands_last t l =
      stands_by t ((state_after last_run).forked t) ((state_after last_run).published t) ((state_after last_run).refused t) refl refl refl (is_closed.closed t l)

  -- every final state is this one
  pub final_is : (σ : State) → IsFinal plan σ → σ ≡ state_after last_run
  final_is σ final =
      sym final.there ∙ (one_end plan final.steps last_run of.checked final.run is_closed.run final.maximal is_maximal).1

  -- ---- nobody is held

  member_of_last : (t p j : ℕ) → (state_after last_run).phases t p ≡ Some j → t < length plan.parents
  member_of_last t p j w = member_within plan of.checked last_run is_closed.run.0 t p j w

  -- who holds an event back is itself published
  holder_blocked : (e : Event) (holds : HoldsBack e) → Closes last_run holds.by → IsTrue (is_some ((state_after last_run).published holds.by))
  holder_blocked e holds (unstarted_task idle quiet) =
      absurd (let none = matches.idle holds.by (λ x. absurd (cc)) (sym (matches.started holds.by) ∙ idle) e.p.0 in let some = holds.member in cc)
  holder_blocked e holds (done_task started over none quiet) =
      absurd (let nothing = member_of_nothing plan of.checked holds.by (leaves_all_phasers plan clock moves of s h matches holds.by (sym
      (matches.started holds.by) ∙ started)) last_run is_closed.run (is_closed.forked holds.by ∙ sym (matches.started holds.by) ∙ started) none e.p.0 in
      let some : (state_after last_run).phases holds.by e.p.0 ≡ Some holds.phase = is_closed.phases holds.by e.p.0 holds.stays ∙ holds.member in cc)
  holder_blocked e holds (blocked_task d stands started published back) = subst (λ o. IsTrue (is_some o)) (sym published) refl

  abbrev published_ones : ℕ → Bool
  published_ones u = is_some ((state_after last_run).published u)

  impeded :
      (t : ℕ) (e : Event) → (state_after last_run).published t ≡ Some e → Closes last_run t →
      IsImpededWithin (IsPublishedOn (state_after last_run)) (IsAtPhase (state_after last_run)) published_ones t
  impeded t e p (unstarted_task idle quiet) = absurd (cc)
  impeded t e p (done_task started over none quiet) = absurd (cc)
  impeded t e p (blocked_task d stands started published holds) =
      let member : (state_after last_run).phases holds.by d.p.0 ≡ Some holds.phase = is_closed.phases holds.by d.p.0 holds.stays ∙ holds.member in
      record {
        event = d;
        waits = published;
        by = holds.by;
        inside = holder_blocked d holds (is_closed.closed holds.by (member_of_last holds.by d.p.0 holds.phase member));
        phase = holds.phase;
        impedes = member;
        below = holds.below;
      }

  published_within : (t : ℕ) (e : Event) → (state_after last_run).published t ≡ Some e → t < length plan.parents
  published_within t e p =
      (let member = published_member plan last_run is_closed.run.0 t e p in member_of_last t e.p.0 member.0 member.1)

  pub blocked_is_dead : (t : ℕ) (e : Event) → (state_after last_run).published t ≡ Some e → IsDeadIn (state_after last_run) t
  blocked_is_dead t e p =
      record {
        tasks = published_ones;
        inside = ap is_some p;
        deadlocked = record {
          some = (t, ap is_some p);
          each = λ u inside. each u ((state_after last_run).published u) refl inside;
        };
      }
    where
      each :
          (u : ℕ) (o : Option Event) → (state_after last_run).published u ≡ o → is_some ((state_after last_run).published u) ≡ true →
          IsImpededWithin (IsPublishedOn (state_after last_run)) (IsAtPhase (state_after last_run)) published_ones u
      each u None is inside = absurd (false≢true (sym (ap is_some is) ∙ inside))
      each u (Some d) is inside = impeded u d is (is_closed.closed u (published_within u d is))

  -- ---- nobody is unforked whose parent is done

  done_or_not :
      (t : ℕ) (forked : Bool) (published refused : Option Event) → (state_after last_run).published t ≡ published →
      end_by forked published refused ≡ Done → Closes last_run t → s.started t ≡ true → actions_left plan last_run t ≡ []
  done_or_not t forked (Some e) refused p e' c started = absurd (cc)
  done_or_not t forked None (Some r) p e' c started = absurd (cc)
  done_or_not t false None None p e' c started = absurd (cc)
  done_or_not t true None None p e' (unstarted_task idle quiet) started = absurd (false≢true (sym idle ∙ started))
  done_or_not t true None None p e' (done_task begun over none quiet) started = none
  done_or_not t true None None p e' (blocked_task d stands begun published holds) started = absurd (cc)

  forked_if_done : (σ : State) (t : ℕ) → end_of σ t ≡ Done → σ.forked t ≡ true
  forked_if_done σ t e = go (σ.forked t) (σ.published t) (σ.refused t) e
    where
      go : (forked : Bool) (published refused : Option Event) → end_by forked published refused ≡ Done → forked ≡ true
      go forked (Some d) refused e = absurd (cc)
      go forked None (Some r) e = absurd (cc)
      go true None None e = refl
      go false None None e = absurd (cc)

  pub child_of_done : (c : ℕ) → 0 < c → c < length plan.parents → end_of (state_after last_run) (parent_of plan c) ≡ Done → (state_after last_run).forked c ≡ true
  child_of_done c some within e =
      let t = parent_of plan c in
      let forked = forked_if_done (state_after last_run) t e in
      let l : t < length plan.parents = task_within t forked in
      let left : actions_left plan last_run t ≡ [] =
      done_or_not t ((state_after last_run).forked t) ((state_after last_run).published t) ((state_after last_run).refused t) refl e (is_closed.closed t l)
      (matches.started t ∙ sym (is_closed.forked t) ∙ forked) in
      let fork = of.forked c some within in
      let placed = action_within plan of.checked t fork.0 (Forks c) fork.1 in
      let all = (drop_end (places last_run t).done (actions plan t) left).1 in
      ap (λ x. x.forked c) ((places_fix plan of.checked last_run is_closed.run.0).0)
      ∙ forked_at_from plan (done_by (places last_run)) c fork.0 (omega arith) fork.1
