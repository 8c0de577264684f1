-- Where no activity goes, each stands as its task has ended; and none comes to a fault.
use Rattle.std.proofs.Common.{◌≡◌, ℕ, ◌+◌, ◌≤◌, Bool, true, false, not, Option, Some, None, Ok, List, [], ◌∷◌, arith, sym, ◌∙◌, ap, subst, refl, ◌⊎◌, inl, inr}
use Rattle.std.specs.Prelude.{if◌then◌else◌, nat_lt, unwrap_or}
use Rattle.std.proofs.lemmas.Option.{slice_get_past}
use Rattle.std.specs.Option.{option_map}
use Rattle.std.proofs.lemmas.Bool.{cases_lt, false≢true}
use Rattle.armus_base.specs.declared.ending.TaskEnd.{TaskEnd}
use Rattle.armus_base.specs.declared.ending.TaskEnd.TheVariants.{Blocked}
use Rattle.armus_base.specs.Finals.{end_of}
use Rattle.armus_base.specs.Runs.{IsFinal}
use Rattle.armus_base.specs.States.{State, event_at}
use Rattle.clock_syntax.specs.Trees.{ClockTree, advance, async, drop, plain, resume}
use Rattle.clock_laws.proofs.Bounded.{step_within}
use Rattle.clock_laws.proofs.ClockEnds.{ends_are_those_of_tasks}
use Rattle.clock_laws.specs.calls.Direct.{ClockState, IsClockEnd, StandsAs, advance_of, clock_step, going, has_ended, forgetting, move_of, settled, unstarted, waits_at_advance, waits_at_end}
use Rattle.clock_laws.specs.calls.Laws.{IsDirectEnd, moves_of}
use Rattle.clock_semantics.proofs.MoveCodes.{moves_at}
use Rattle.clock_semantics.specs.Moves.{Move, ActivityStanding, advances, ends}
use Rattle.clock_semantics.specs.Unfolding.{ClockNames, ClockUnfolding, activities, clock_unfolded, plan_of_moves}
use Rattle.clock_semantics.specs.calls.ProgramPoints.{ProgramPoint}
use Rattle.clock_laws.specs.calls.TextLaws.{NoRunFails, TextEndsAreThoseOfTasks, TextRunsAreDirect}
use Rattle.clock_laws.specs.TextLaws.{WaitsAtOne, end_as}
use Rattle.clock_laws.specs.TextMachine as text
use Rattle.clock_laws.specs.TextMachine.{Acting, Activity, Continuation, IsAtRest, IsTextEnd, Made, TextState, TextStep, advance_on, closes, departs, does_next, fails, goes, goes_to, is_empty, is_there, or_fails, over, reads, remembering, signals, stand_at, stand_of, stand_on, stand_with, text_step, then_clocks, waits}
use Rattle.clock_laws.specs.TextNumbers.{IsActivityIn, made_in, number_in}
use Rattle.clock_laws.proofs.Corresponding.{Corresponds, Fits, IsClock, IsFinish, Knows, Stands, closes_so, leaves_so, reads_so, registered, turns_so}
use Rattle.clock_laws.proofs.MadeKinds.{begun_there, opened_there}
use Rattle.clock_laws.proofs.Makes.{Makes, advances_on, begins_one, drops_from, ends_one, has_read, has_turned, loops, opens_one, resumes_on, skips, starts_one, stops_here, turns_on}
use Rattle.clock_laws.proofs.Numbers.{unfolded_rows}
use Rattle.clock_laws.proofs.OnOneClock.{inside}
use Rattle.clock_laws.proofs.Tables.{HaveNames, empties}
use Rattle.clock_laws.proofs.TextRuns.{Runs, all_found, found_here, have_names, none_goes, runs, told}

module _ (u : ClockUnfolding) (names : HaveNames u) (s : TextState) (m : ClockState) (h : Corresponds u s m) (a : Activity) (there : is_there s a ≡ true) where
  abbrev t : ℕ
  t = number_in u a

  abbrev x : Acting
  x = s.acting a

  -- how an activity stands that is there: it goes; or it has ended; or it waits at an advance, or at the end of a finish, in both machines
  data ActsOrRests (o : TextStep) : Type 0 where
    goes_now : (v : TextState) → o ≡ goes v → ActsOrRests o
    ended_so : x.rest ≡ over → m.left t ≡ [] → ActsOrRests o
    advances_so :
        (name : List ℕ) (more : ClockTree) (rest : Continuation) (q : Made) (k : ℕ) (ms : List Move) → o ≡ waits → x.rest ≡ reads (plain (advance name) more) rest →
        x.names name ≡ Some q → x.remembers q ≡ Some k → IsClock u q → m.left t ≡ advances (made_in u q) ∷ ms → nat_lt k (s.clock_of q).phase ≡ false → ActsOrRests o
    closes_now :
        (f : Made) (rest : Continuation) (ms : List Move) → o ≡ waits → x.rest ≡ closes f rest → m.left t ≡ ends (made_in u f) ∷ ms → is_empty (s.open_set f) ≡ false →
        IsFinish u f → ActsOrRests o

  -- at an advance, by what is remembered and by the phase
  at_an_advance :
      (name : List ℕ) (more : ClockTree) (rest : Continuation) (q : Made) (ms : List Move) → x.rest ≡ reads (plain (advance name) more) rest → x.names name ≡ Some q →
      IsClock u q → m.left t ≡ advances (made_in u q) ∷ ms → (o : Option ℕ) → x.remembers q ≡ o → ActsOrRests (then_clocks (advance_on a (reads more rest) s q o))
  at_an_advance name more rest q ms rest_is named fine left_is None memory = goes_now _ refl
  at_an_advance name more rest q ms rest_is named fine left_is (Some k) memory = by (nat_lt k (s.clock_of q).phase) refl
    where
      by : (b : Bool) → nat_lt k (s.clock_of q).phase ≡ b →
          ActsOrRests (then_clocks (if b then goes (goes_to a (reads more rest) (remembering a q None s)) else waits))
      by true e = goes_now _ refl
      by false e = advances_so name more rest q k ms refl rest_is named memory fine left_is e

  at_an_end :
      (f : Made) (rest : Continuation) (ms : List Move) → x.rest ≡ closes f rest → m.left t ≡ ends (made_in u f) ∷ ms → IsFinish u f → (b : Bool) →
      is_empty (s.open_set f) ≡ b → ActsOrRests (then_clocks (if b then goes (goes_to a rest s) else waits))
  at_an_end f rest ms rest_is left_is made true e = goes_now _ refl
  at_an_end f rest ms rest_is left_is made false e = closes_now f rest ms refl rest_is left_is e made

  classified :
      {point : ProgramPoint} {c : Continuation} {ns : ClockNames} {standing : ActivityStanding} {left : List Move} → Fits u point c → Makes u point ns standing left →
      Knows u x c ns standing (registered u s a) → x.rest ≡ c → m.left t ≡ left → ActsOrRests (then_clocks (does_next a c s))
  classified (reads_so fits) (has_read makes_on) knows rest_is left_is = goes_now _ refl
  classified (turns_so fits) (has_turned makes_on) knows rest_is left_is = goes_now _ refl
  classified (reads_so fits) (skips makes_on) knows rest_is left_is = goes_now _ refl
  classified (reads_so fits) (loops makes_on) knows rest_is left_is = goes_now _ refl
  classified (turns_so fits) (turns_on makes_on) knows rest_is left_is = goes_now _ refl
  classified (reads_so fits) (opens_one q makes_on) knows rest_is left_is = goes_now _ refl
  classified {ns = ns} {standing = standing} (reads_so {rest = rest} fits) (advances_on {x = name} {more = more} {ms = ms} p named on makes_on) knows rest_is left_is =
      let c : Continuation = reads (plain (advance name) more) rest in
      let g = found_here u s m h a c ns standing knows false [] name p named on refl (λ e. absurd (false≢true e)) in
      subst ActsOrRests (sym (ap (λ o. then_clocks (or_fails (λ q. advance_on a (reads more rest) s q (x.remembers q)) o)) g.3))
      (at_an_advance name more rest g.0 ms rest_is g.1 (knows.clocks name g.0 g.1) (left_is ∙ ap (λ z. advances z ∷ ms) g.2) (x.remembers g.0) refl)
  classified {ns = ns} {standing = standing} (reads_so {rest = rest} fits) (resumes_on {x = name} {more = more} p named on idle makes_on) knows rest_is left_is =
      let c : Continuation = reads (plain (resume name) more) rest in
      let g = found_here u s m h a c ns standing knows true [] name p named on refl (λ e. (refl, idle)) in
      goes_now _ (ap (λ o. then_clocks (or_fails (λ q. goes (goes_to a (reads more rest) (signals a q s))) o)) g.3)
  classified {ns = ns} {standing = standing} (reads_so {rest = rest} fits) (drops_from {x = name} {more = more} p named on makes_on) knows rest_is left_is =
      let c : Continuation = reads (plain (drop name) more) rest in
      let g = found_here u s m h a c ns standing knows false [] name p named on refl (λ e. absurd (false≢true e)) in
      goes_now _ (ap (λ o. then_clocks (or_fails (λ q. goes (goes_to a (reads more rest) (departs a q s))) o)) g.3)
  classified {ns = ns} {standing = standing} (reads_so {rest = rest} fits) (starts_one {xs = xs} {body = body} {more = more} number ps start named begun is_start makes_on) knows rest_is left_is =
      let c : Continuation = reads (async xs body more) rest in
      let g = all_found u s m h a c ns standing knows [] xs ps named refl in
      goes_now _ (ap (λ o. then_clocks (or_fails (λ qs. goes (text.starts_one a body qs (reads more rest) s)) o)) g.1)
  classified (reads_so fits) (begins_one q makes_on) knows rest_is left_is = goes_now _ refl
  classified (closes_so {f = f} {rest = rest} fits) (ends_one {ms = ms} makes_on) knows rest_is left_is =
      at_an_end f rest ms rest_is left_is knows.finishes.0 (is_empty (s.open_set f)) refl
  classified leaves_so (stops_here ps) knows rest_is left_is = goes_now _ refl

  acts_or_rests : ActsOrRests (text_step a s)
  acts_or_rests = by (h.acts a there).stands
    where
      by : (((x.rest ≡ over) × (m.left t ≡ [])) ⊎ Stands u x x.rest (m.left t) (registered u s a)) → ActsOrRests (text_step a s)
      by (inl ended) = ended_so ended.0 ended.1
      by (inr st) = classified st.fits st.makes st.knows refl refl

  pub never_fails : (k : ℕ) → text_step a s ≡ fails k → ⊥
  never_fails k e = by acts_or_rests
    where
      by : ActsOrRests (text_step a s) → ⊥
      by (goes_now v is) = absurd (let z = sym is ∙ e in cc)
      by (ended_so rest left) = absurd (let z = sym (ap (λ c. then_clocks (does_next a c s)) rest) ∙ e in cc)
      by (advances_so name more rest q k2 ms is rest_is named memory fine left late) = absurd (let z = sym is ∙ e in cc)
      by (closes_now f rest ms is rest_is left empty made) = absurd (let z = sym is ∙ e in cc)

  -- ---- at rest

  module _ (rests : (r : TextState) → text_step a s ≡ goes r → ⊥) where
    step_by : (o : Option ClockState) → move_of (activities u) t (m.left t) m ≡ o → o ≡ None → clock_step (activities u) t m ≡ None
    step_by o is none =
        ap (λ z. if m.started t then option_map (settled (activities u)) z else None) (is ∙ none) ∙ by (m.started t)
      where
        by : (b : Bool) → (if b then option_map (settled (activities u)) None else None) ≡ None
        by true = refl
        by false = refl

    here : IsActivityIn u a
    here = inside u names s m h a there

    pub none_made : clock_step (activities u) t m ≡ None
    none_made = by acts_or_rests
      where
        by : ActsOrRests (text_step a s) → clock_step (activities u) t m ≡ None
        by (goes_now v is) = absurd (rests v is)
        by (ended_so rest left) = step_by None (ap (λ ms. move_of (activities u) t ms m) left) refl
        by (advances_so name more rest q k ms is rest_is named memory fine left late) =
            step_by None
            (ap (λ zs. move_of (activities u) t zs m) left
            ∙ ap (λ o. advance_of t (made_in u q) ms o m) (sym (h.tells.remembers q a fine.0 here) ∙ memory)
            ∙ ap (λ n. if nat_lt k n then Some (going t ms (forgetting t (made_in u q) m)) else None) (sym (h.tells.phase q fine.0))
            ∙ ap (λ b. if b then Some (going t ms (forgetting t (made_in u q) m)) else None) late)
            refl
        by (closes_now f rest ms is rest_is left empty made) =
            step_by None
            (ap (λ zs. move_of (activities u) t zs m) left
            ∙ ap (λ b. if b then None else Some (going t ms m))
            (empties u names (s.open_set f) (m.open_set (made_in u f)) (λ b o. h.holds.inside b (h.holds.open_in f b o)) (λ b y. h.tells.open_set f b made.0 y)
            ∙ ap not empty))
            refl

    started : m.started t ≡ true
    started = sym (h.tells.started a here) ∙ there

    -- the stand of an activity that is there
    stand_is : (c : Continuation) → x.rest ≡ c → stand_of s a ≡ stand_with true x c
    stand_is c is = ap (λ b. stand_with b x x.rest) there ∙ ap (stand_with true x) is

    pub waits_at_one : WaitsAtOne u (stand_of s a)
    waits_at_one = by acts_or_rests
      where
        by : ActsOrRests (text_step a s) → WaitsAtOne u (stand_of s a)
        by (goes_now v is) = absurd (rests v is)
        by (ended_so rest left) = subst (WaitsAtOne u) (sym (stand_is over rest)) tt
        by (advances_so name more rest q k ms o rest_is named memory fine left late) =
            subst (WaitsAtOne u) (sym (stand_is (reads (plain (advance name) more) rest) rest_is ∙ ap (stand_at x) named ∙ ap (stand_on q) memory))
            (fine.0, opened_there (moves_at u (number_in u q.maker)) q.before fine.0.1 fine.1)
        by (closes_now f rest ms o rest_is left empty fine) =
            subst (WaitsAtOne u) (sym (stand_is (closes f rest) rest_is)) (fine.0, begun_there (moves_at u (number_in u f.maker)) f.before fine.0.1 fine.1)

    pub stands_so : (e : TaskEnd) → StandsAs m t e → end_as (made_in u) (stand_of s a) ≡ Some e
    stands_so e st = by acts_or_rests e st
      where
        one_number : (p q : ℕ) (ms ns : List Move) → advances p ∷ ms ≡ advances q ∷ ns → p ≡ q
        one_number p q ms ns e = cc

        one_finish : (p q : ℕ) (ms ns : List Move) → ends p ∷ ms ≡ ends q ∷ ns → p ≡ q
        one_finish p q ms ns e = cc

        one_phase : (p q : ℕ) → ◌≡◌ {A = Option ℕ} (Some p) (Some q) → p ≡ q
        one_phase p q e = cc

        by : ActsOrRests (text_step a s) → (e : TaskEnd) → StandsAs m t e → end_as (made_in u) (stand_of s a) ≡ Some e
        by (goes_now v is) e st = absurd (rests v is)
        by (ended_so rest left) e (unstarted off) = absurd (false≢true (sym off ∙ started))
        by (ended_so rest left) e (has_ended on none) = ap (end_as (made_in u)) (stand_is over rest)
        by (ended_so rest left) e (waits_at_advance p k ms on is memory) = absurd (let z = sym left ∙ is in cc)
        by (ended_so rest left) e (waits_at_end f ms on is) = absurd (let z = sym left ∙ is in cc)
        by (advances_so name more rest q k ms o rest_is named memory fine left late) e (unstarted off) = absurd (false≢true (sym off ∙ started))
        by (advances_so name more rest q k ms o rest_is named memory fine left late) e (has_ended on none) = absurd (let z = sym left ∙ none in cc)
        by (advances_so name more rest q k ms o rest_is named memory fine left late) e (waits_at_advance p j ns on is remembered) =
            let clock_is : made_in u q ≡ p = one_number (made_in u q) p ms ns (sym left ∙ is) in
            let phase_is : k ≡ j =
            one_phase k j (sym memory ∙ h.tells.remembers q a fine.0 here ∙ ap (λ z. m.remembered z t) clock_is ∙ remembered) in
            ap (end_as (made_in u)) (stand_is (reads (plain (advance name) more) rest) rest_is ∙ ap (stand_at x) named ∙ ap (stand_on q) memory)
            ∙ ap (λ z. Some (Blocked (event_at z (k + 1)))) clock_is ∙ ap (λ z. Some (Blocked (event_at p (z + 1)))) phase_is
        by (advances_so name more rest q k ms o rest_is named memory fine left late) e (waits_at_end f ns on is) = absurd (let z = sym left ∙ is in cc)
        by (closes_now f rest ms o rest_is left empty made) e (unstarted off) = absurd (false≢true (sym off ∙ started))
        by (closes_now f rest ms o rest_is left empty made) e (has_ended on none) = absurd (let z = sym left ∙ none in cc)
        by (closes_now f rest ms o rest_is left empty made) e (waits_at_advance p j ns on is remembered) = absurd (let z = sym left ∙ is in cc)
        by (closes_now f rest ms o rest_is left empty made) e (waits_at_end g ns on is) =
            ap (end_as (made_in u)) (stand_is (closes f rest) rest_is) ∙ ap (λ z. Some (Blocked (event_at z 1))) (one_finish (made_in u f) g ms ns (sym left ∙ is))

-- ---- the laws

module _ (p : ClockTree) (u : ClockUnfolding) (e : clock_unfolded p ≡ Ok u) where
  abbrev names : HaveNames u
  names = have_names p u e

  no_moves : (k : ℕ) → activities u ≤ k → moves_of u k ≡ []
  no_moves k l = ap (λ o. unwrap_or o []) (slice_get_past u.moves k (omega (arith, l, (unfolded_rows p u e).moves_many)))

  -- an end of the machine on the text is one of the machine on moves
  pub ends_directly : (s : TextState) (steps : List Activity) (r : Runs p u e steps s) → IsAtRest s → IsClockEnd (activities u) r.m
  ends_directly s steps r rests t =
      elim (cases_lt t (activities u)) [
        | inl l ↦ (let a = names.named t l in by_there a.0 a.1 a.2 (is_there s a.0) refl)
        | inr l ↦ none_far (clock_step (activities u) t r.m) refl l
      ]
    where
      none_far : (o : Option ClockState) → clock_step (activities u) t r.m ≡ o → activities u ≤ t → clock_step (activities u) t r.m ≡ None
      none_far None is l = is
      none_far (Some n) is l = absurd (let k = step_within (activities u) (moves_of u) no_moves r.ts r.m r.run t n is in omega arith)

      by_there : (a : Activity) → IsActivityIn u a → number_in u a ≡ t → (b : Bool) → is_there s a ≡ b → clock_step (activities u) t r.m ≡ None
      by_there a x same true there =
          ap (λ k. clock_step (activities u) k r.m) (sym same) ∙ none_made u names s r.m r.both a there (λ v step. rests a v step)
      by_there a x same false none =
          ap (λ (b : Bool). if b then option_map (settled (activities u)) (move_of (activities u) t (r.m.left t) r.m) else None)
          (ap r.m.started (sym same) ∙ sym (r.both.tells.started a x) ∙ none)

  pub stands_as_task : (s : TextState) (σ : State) (a : Activity) → IsTextEnd p s → IsFinal (plan_of_moves u) σ → IsActivityIn u a →
      end_as (made_in u) (stand_of s a) ≡ Some (end_of σ (number_in u a))
  stands_as_task s σ a end final x =
      let r = runs p u e end.steps s end.run in
      let direct : IsDirectEnd u r.m = record { steps = r.ts; run = r.run; at_rest = ends_directly s end.steps r end.at_rest } in
      let st = ends_are_those_of_tasks p u r.m σ (number_in u a) e direct final (names.inside a x) in
      by (is_there s a) refl (end_of σ (number_in u a)) r st
    where
      by : (b : Bool) → is_there s a ≡ b → (k : TaskEnd) → (r : Runs p u e end.steps s) → StandsAs r.m (number_in u a) k → end_as (made_in u) (stand_of s a) ≡ Some k
      by true there k r st = stands_so u names s r.m r.both a there (λ v step. end.at_rest a v step) k st
      by false none k r st = unstarted_so k st
        where
          not_started : r.m.started (number_in u a) ≡ false
          not_started = sym (r.both.tells.started a x) ∙ none

          stand_none : stand_of s a ≡ text.unstarted
          stand_none = ap (λ b. stand_with b (s.acting a) (s.acting a).rest) none ∙ ap (λ (y : Acting). stand_with false y y.rest) (r.both.holds.unstarted a none)

          unstarted_so : (k : TaskEnd) → StandsAs r.m (number_in u a) k → end_as (made_in u) (stand_of s a) ≡ Some k
          unstarted_so k (unstarted off) = ap (end_as (made_in u)) stand_none
          unstarted_so k (has_ended on z) = absurd (false≢true (sym not_started ∙ on))
          unstarted_so k (waits_at_advance q j ms on is memory) = absurd (false≢true (sym not_started ∙ on))
          unstarted_so k (waits_at_end f ms on is) = absurd (false≢true (sym not_started ∙ on))

  pub waits_at_one_made : (s : TextState) (a : Activity) → IsTextEnd p s → IsActivityIn u a → WaitsAtOne u (stand_of s a)
  waits_at_one_made s a end x = let r = runs p u e end.steps s end.run in by (is_there s a) refl r
    where
      by : (b : Bool) → is_there s a ≡ b → Runs p u e end.steps s → WaitsAtOne u (stand_of s a)
      by true there r = waits_at_one u names s r.m r.both a there (λ v step. end.at_rest a v step)
      by false none r =
          subst (WaitsAtOne u) (sym (
          ap (λ b. stand_with b (s.acting a) (s.acting a).rest) none ∙ ap (λ (y : Acting). stand_with false y y.rest) (r.both.holds.unstarted a none)
          )) tt

pub text_runs_are_direct : TextRunsAreDirect
text_runs_are_direct p u steps s e run =
    let r = runs p u e steps s run in (r.ts, r.m, r.are, r.run, told p u e s r.m r.both)

pub no_run_fails : NoRunFails
no_run_fails p u steps s a k e run step =
    let r = runs p u e steps s run in by (is_there s a) refl r
  where
    by : (b : Bool) → is_there s a ≡ b → Runs p u e steps s → ⊥
    by true there r = never_fails u (have_names p u e) s r.m r.both a there k step
    by false none r = absurd (let z = sym (none_goes p u e s a r.both.holds none) ∙ step in cc)

pub text_ends_are_those_of_tasks : TextEndsAreThoseOfTasks
text_ends_are_those_of_tasks p u s σ a e end final x = stands_as_task p u e s σ a end final x
