-- One stage more on the way to the first fault.
use Rattle.std.proofs.Common.{◌≡◌, ℕ, suc, ◌+◌, ◌-◌, ◌*◌, ◌<◌, ◌≤◌, ◌^◌, Bool, true, false, List, [], ◌∷◌, ◌++◌, length, Option, Some, None, Ok, Err, append_assoc, arith, sym, ◌∙◌, ap, subst, refl}
use Rattle.std.specs.Prelude.{map, nat_lt, slice_index_or}
use Rattle.std.proofs.lemmas.Bool.{ltb-true, not-false}
use Rattle.std.proofs.lemmas.List.{length-append}
use Rattle.armus_base.specs.declared.ids.TaskId.{TaskId}
use Rattle.pl_syntax.specs.Tree.{new_task, new_phaser, reg, dereg, adv, await, skip}
use Rattle.pl_plan.specs.Unfolding.{Coming, UnfoldingState, Visit, a_fork, a_loop, a_plain, a_turn, opening_state}
use Rattle.pl_plan.specs.Stages.{IsNextStage, after_stage, comes, ends_of, stages_below}
use Rattle.pl_plan.specs.Tests.{Passes}
use Rattle.pl_plan.specs.declared.step.FlatStep.{FlatStep}
use Rattle.pl_plan.specs.inside.Checker.{Checker, IsChecker, Keeps}
use Rattle.pl_plan.specs.inside.CheckerSteps.{HasNames}
use Rattle.pl_plan.specs.inside.Shows.{ShowsState}
use Rattle.pl_plan.specs.inside.Steps.{IsSpelled}
use Rattle.pl_plan.proofs.Unfolds as unfolds
use Rattle.explain_check.specs.declared.frames.OpenBody.{OpenBody}
use Rattle.explain_check.specs.declared.frames.Item.{Item}
use Rattle.explain_check.specs.declared.notes.LastTurn.{LastTurn}
use Rattle.explain_check.specs.declared.notes.Note.{Note}
use Rattle.explain_check.specs.declared.seek.FaultPlace.TheVariants as p
use Rattle.explain_check.specs.declared.seek.FoundFault.{FoundFault}
use Rattle.explain_check.specs.inside.Framed.{Comes, FramesAre, frames_after, next_item}
use Rattle.explain_check.specs.inside.Noted.{LastTurnsTell, NotesTell, TurnsTold, turn_at, with_last_turn, with_notes, notes_at}
use Rattle.explain_check.specs.inside.Seen.{visit_checked, sight_of}
use Rattle.explain_check.specs.inside.Seeks.{AtVisit, CameTo, HasMidst, HasStart, IsAt, IsShown, Midst, NamedProgram, Stands, Stopped}
use Rattle.explain_check.proofs.Coming.{came_fails, came_past, has_names, CamePast}
use Rattle.explain_check.proofs.FrameVisits.{Popped, WentOn, frames_few, frames_pop, idled, went_on}
use Rattle.explain_check.proofs.LastTurnsOn.{last_turns_on, turn_few, turns_on}
use Rattle.explain_check.proofs.Last.{tells_more}
use Rattle.explain_check.proofs.NotesFitting.{notes_fit}

-- one visit more
visits_after : (t n : ℕ) (c : Coming) (s : UnfoldingState) → (after_stage (comes t (record { statement = n; coming = c })) s).visits ≡ s.visits + 1
visits_after t n (a_plain (new_task x)) s = refl
visits_after t n (a_plain (new_phaser x)) s = refl
visits_after t n (a_plain (reg x y)) s = refl
visits_after t n (a_plain (dereg x)) s = refl
visits_after t n (a_plain (adv x)) s = refl
visits_after t n (a_plain (await x off)) s = refl
visits_after t n (a_plain skip) s = refl
visits_after t n (a_fork x body) s = refl
visits_after t n a_loop s = refl
visits_after t n a_turn s = refl

visit_left : (s : UnfoldingState) (t : ℕ) (c : Coming) → Passes s t c → s.visits < 4194304
visit_left s t c passes = ltb-true s.visits 4194304 (not-false (nat_lt s.visits 4194304) (passes _ (0, omega arith, refl)))

module _ (g : NamedProgram) where
  abbrev two : Bool
  two = g.program.two

  shown_steps : (k new : Checker) (s e : UnfoldingState) → IsShown g k s → Keeps k new → ShowsState g.names new e → IsShown g new e
  shown_steps k new s e shown keeps shows =
      record { fits = keeps.fits; shows = shows; steps_are = keeps.steps ∙ shown.steps_are; small = subst (λ (ss : List FlatStep). length ss < 2 ^ 32) (sym keeps.steps) shown.small }

  pub start_later :
      (t first after n n' : ℕ) (s e : UnfoldingState) → n' ≡ n → slice_index_or e.starts t None ≡ slice_index_or s.starts t None → HasStart g t first after n s →
      HasStart g t first after n' e
  start_later t first after n n' s e many same h =
      record {
        start = h.start;
        start_is = same ∙ h.start_is;
        first_is = h.first_is;
        spelled = subst (λ i. IsSpelled i g.names g.steps first h.start.body after) (sym many) h.spelled;
        within = h.within;
      }

  module _ (t : TaskId) (k : Checker) (notes : List Note) (last_turns : List LastTurn) (st : Stands g t.0 k notes last_turns) (here : t.0 < length st.state.plan.parents)
      (item : Item) (m : Visit) (c : Comes (length k.bindings.slots) g.names g.steps item m) (next : IsNextStage two st.stages (comes t.0 m) st.state) where
    c_kept : Comes (length k.bindings.slots) g.names k.steps item m
    c_kept = subst (λ ss. Comes (length k.bindings.slots) g.names ss item m) (sym st.shown.steps_are) c

    run : t.0 < length k.parents
    run = subst (λ (ps : List (Option TaskId)). t.0 < length ps) st.shown.shows.plan.parents here

    -- it passed
    pub record CameOn (new : Checker) (new_notes : List Note) (new_last_turns : List LastTurn) : Type 0 where
      pub stands : Stands g t.0 new new_notes new_last_turns
      pub keeps : Keeps k new
      pub kept : unfolds.Keeps two t.0 st.state stands.state
      pub stages_are : stands.stages ≡ st.stages ++ comes t.0 m ∷ []
      pub visits_are : stands.state.visits ≡ st.state.visits + 1
      pub visit_left : st.state.visits < 4194304

    pub came_on :
        (new : Checker) (new_notes : List Note) (new_last_turns : List LastTurn) → item.at < length g.steps → visit_checked t.0 item.at item.step k ≡ Ok new →
        new_notes ≡ with_notes (sight_of k t item) notes → new_last_turns ≡ with_last_turn (sight_of k t item) last_turns → CameOn new new_notes new_last_turns
    came_on new new_notes new_last_turns within is notes_are last_turns_are =
        let past : CamePast g.names k st.state st.shown.fits st.shown.shows t.0 run m new =
        came_past g.names k st.state st.shown.fits st.shown.shows t.0 run item m new c_kept is in
        let e = after_stage (comes t.0 m) st.state in
        let kept = unfolds.keeps two t.0 m.statement st.state st.past.kept here m.coming past.passes in
        let one_more = visits_after t.0 m.statement m.coming st.state in
        let left = visit_left st.state t.0 m.coming past.passes in
        let in_last_turns : item.at < length last_turns = omega (arith, within, st.last_turns_tell.many, ap length st.shown.steps_are) in
        record {
          stands = record {
            stages = st.stages ++ comes t.0 m ∷ [];
            state = e;
            past = record {
              leads = unfolds.leads_more two [] st.stages (comes t.0 m ∷ []) (opening_state g.program.body) st.state e st.past.leads (next, past.passes, refl);
              kept = kept.kept;
              few = omega (arith, left, one_more);
            };
            shown = shown_steps k new st.state e st.shown past.keeps past.shows;
            told = subst (λ ns. NotesTell g.names (opening_state g.program.body) (st.stages ++ comes t.0 m ∷ []) ns) (sym notes_are)
                (tells_more g.names two st.stages (opening_state g.program.body) st.state (comes t.0 m) notes (notes_at (sight_of k t item) item.step) st.past.leads st.told
                (notes_fit g.names k st.state st.shown.shows t item m c_kept));
            last_turns_tell =
                subst (λ (ss : List FlatStep). LastTurnsTell t.0 (length ss) e.visits (st.stages ++ comes t.0 m ∷ []) new_last_turns) (sym past.keeps.steps)
                (subst (λ v. LastTurnsTell t.0 (length k.steps) v (st.stages ++ comes t.0 m ∷ []) new_last_turns) (sym one_more)
                (subst (λ ls. LastTurnsTell t.0 (length k.steps) (st.state.visits + 1) (st.stages ++ comes t.0 m ∷ []) ls) (sym last_turns_are)
                (last_turns_on t (length k.steps) st.state.visits st.stages last_turns st.last_turns_tell k (length k.bindings.slots) g.names g.steps item m c in_last_turns)));
          };
          keeps = past.keeps;
          kept = kept;
          stages_are = refl;
          visits_are = one_more;
          visit_left = left;
        }

    -- it is at fault
    pub came_stop :
        (first after : ℕ) → HasStart g t.0 first after (length k.bindings.slots) st.state → (stop : FoundFault) (new_notes : List Note) (new_last_turns : List LastTurn) → item.at < length g.steps →
        visit_checked t.0 item.at item.step k ≡ Err stop.fault → new_notes ≡ notes → new_last_turns ≡ with_last_turn (sight_of k t item) last_turns → stop.place ≡ p.Visit (sight_of k t item) →
        stop.first ≡ first → stop.after ≡ after → Stopped g stop new_notes new_last_turns
    came_stop first after started stop new_notes new_last_turns within is notes_are last_turns_are place first_is after_is =
        let in_last_turns : item.at < length last_turns = omega (arith, within, st.last_turns_tell.many, ap length st.shown.steps_are) in
        let there : AtVisit g (sight_of k t item) first after st.stages (comes t.0 m) st.state new_last_turns =
        record {
          visit = m;
          stage_is = refl;
          kept = k;
          shown = st.shown;
          seen = record { sight_is = refl; comes_to = c; here = within };
          started = started;
          many =
              (let tell = last_turns_on t (length k.steps) st.state.visits st.stages last_turns st.last_turns_tell k (length k.bindings.slots) g.names g.steps item m c in_last_turns in
              ap length last_turns_are ∙ tell.many ∙ ap length st.shown.steps_are);
          turns = subst (λ ls. TurnsTold t.0 (st.stages ++ comes t.0 m ∷ []) ls) (sym last_turns_are)
              (turns_on t st.stages last_turns st.last_turns_tell.turns k (length k.bindings.slots) g.names g.steps item m c in_last_turns);
        } in
        record {
          stages = st.stages;
          there = st.state;
          past = st.past;
          stage = comes t.0 m;
          next = next;
          fails = came_fails g.names k st.state st.shown.fits st.shown.shows t.0 run item m stop.fault c_kept is;
          told = subst (λ ns. NotesTell g.names (opening_state g.program.body) st.stages ns) (sym notes_are) st.told;
          place =
              subst (λ z. IsAt g z stop.first stop.after st.stages (comes t.0 m) st.state new_last_turns) (sym place)
              (subst (λ z. AtVisit g (sight_of k t item) z stop.after st.stages (comes t.0 m) st.state new_last_turns) (sym first_is)
              (subst (λ z. AtVisit g (sight_of k t item) first z st.stages (comes t.0 m) st.state new_last_turns) (sym after_is) there));
        }

  -- ---- in the midst of a task

  module _ (t : TaskId) (first after : ℕ) (fs : List OpenBody) (f : OpenBody) (k : Checker) (notes : List Note) (last_turns : List LastTurn)
      (now : Midst g t.0 first after (fs ++ f ∷ []) k notes last_turns) where
    popped : Popped (length k.bindings.slots) g.names g.steps fs f now.visits
    popped = frames_pop (length k.bindings.slots) g.names g.steps fs f now.visits now.frames_are

    few_steps : length g.steps < 2 ^ 32
    few_steps = subst (λ (ss : List FlatStep). length ss < 2 ^ 32) now.stands.shown.steps_are now.stands.shown.small

    pub frame_within : f.to ≤ length k.steps
    frame_within = subst (λ (ss : List FlatStep). f.to ≤ length ss) (sym now.stands.shown.steps_are) popped.is.within

    pub frame_small : f.of_loop + 1 < 2 ^ 32
    frame_small = popped.is.small

    pub midst_idle : next_item k.steps f ≡ None → Midst g t.0 first after (frames_after k.steps f fs) k notes last_turns
    midst_idle none =
        let idle = idled (length k.bindings.slots) g.names g.steps f popped.own fs popped.is (ap (λ ss. next_item ss f) (sym now.stands.shown.steps_are) ∙ none) in
        record {
          stands = now.stands;
          here = now.here;
          started = now.started;
          visits = now.visits;
          frames_are =
              subst (λ z. FramesAre (length k.bindings.slots) g.names g.steps z now.visits) (sym (ap (λ ss. frames_after ss f fs) now.stands.shown.steps_are ∙ idle.1))
              (subst (λ z. FramesAre (length k.bindings.slots) g.names g.steps fs z) (sym (popped.visits_are ∙ ap (λ z. z ++ popped.rest) idle.0)) popped.are);
          own = now.own;
        }

    module _ (item : Item) (some : next_item k.steps f ≡ Some item) where
      went : WentOn (length k.bindings.slots) g.names g.steps f popped.own item fs (frames_after g.steps f fs)
      went = went_on (length k.bindings.slots) g.names g.steps f popped.own fs item few_steps popped.is (ap (λ ss. next_item ss f) (sym now.stands.shown.steps_are) ∙ some)

      abbrev left : List Visit
      left = went.left ++ popped.rest

      visits_are : now.visits ≡ went.visit_is ∷ left
      visits_are = popped.visits_are ∙ ap (λ z. z ++ popped.rest) went.visits_are

      own_now : now.stands.stages ++ (comes t.0 went.visit_is ∷ (map (λ m. comes t.0 m) left ++ ends_of two t.0)) ≡ stages_below two (suc t.0) now.stands.state
      own_now = ap (λ ms. now.stands.stages ++ (map (λ m. comes t.0 m) ms ++ ends_of two t.0)) (sym visits_are) ∙ now.own

      next : IsNextStage two now.stands.stages (comes t.0 went.visit_is) now.stands.state
      next = unfolds.next_of two now.stands.stages t.0 (comes t.0 went.visit_is) (map (λ m. comes t.0 m) left ++ ends_of two t.0) now.stands.state now.here own_now

      pub item_fits : IsChecker k
      item_fits = now.stands.shown.fits

      pub item_task : t.0 < length k.parents
      item_task = subst (λ (ps : List (Option TaskId)). t.0 < length ps) now.stands.shown.shows.plan.parents now.here

      pub item_names : HasNames (length k.bindings.slots) item.step
      item_names = has_names (length k.bindings.slots) g.names g.steps item went.visit_is went.comes_to

      pub item_small : item.at + 1 < 2 ^ 32
      item_small = omega (arith, went.within, few_steps)

      pub item_here : item.at < length last_turns
      item_here = omega (arith, went.within, now.stands.last_turns_tell.many, ap length now.stands.shown.steps_are)

      pub item_few : turn_at last_turns t.0 item.at + 1 < 2 ^ 32
      item_few =
          let l = turn_few t.0 (length k.steps) now.stands.state.visits now.stands.stages last_turns now.stands.last_turns_tell item.at in
          omega (arith, l, now.stands.past.few)

      on : (new : Checker) (new_notes : List Note) (new_last_turns : List LastTurn) →
          CameOn t k notes last_turns now.stands now.here item went.visit_is went.comes_to next new new_notes new_last_turns →
          Midst g t.0 first after (frames_after k.steps f fs) new new_notes new_last_turns
      on new new_notes new_last_turns came =
          let starts = came.kept.starts in
          record {
            stands = came.stands;
            here = omega (arith, now.here, came.kept.more);
            started =
                start_later t.0 first after (length k.bindings.slots) (length new.bindings.slots) now.stands.state came.stands.state came.keeps.slots (starts t.0 (omega arith)) now.started;
            visits = left;
            frames_are =
                subst (λ n. FramesAre n g.names g.steps (frames_after k.steps f fs) left) (sym came.keeps.slots)
                (subst (λ ss. FramesAre (length k.bindings.slots) g.names g.steps (frames_after ss f fs) left) (sym now.stands.shown.steps_are)
                (went.frames_are popped.rest popped.are));
            own =
                ap (λ z. z ++ (map (λ m. comes t.0 m) left ++ ends_of two t.0)) came.stages_are
                ∙ append_assoc now.stands.stages (comes t.0 went.visit_is ∷ []) (map (λ m. comes t.0 m) left ++ ends_of two t.0) ∙ own_now
                ∙ sym (unfolds.stages_same two (suc t.0) now.stands.state came.stands.state (λ u l. starts u (omega (arith, l))));
          }

      came_now : (new : Checker) (new_notes : List Note) (new_last_turns : List LastTurn) → CameTo t item first after (Ok None) k notes last_turns new new_notes new_last_turns →
          CameOn t k notes last_turns now.stands now.here item went.visit_is went.comes_to next new new_notes new_last_turns
      came_now new new_notes new_last_turns came =
          came_on t k notes last_turns now.stands now.here item went.visit_is went.comes_to next new new_notes new_last_turns went.within came.0 came.1 came.2

      pub midst_on : (new : Checker) (new_notes : List Note) (new_last_turns : List LastTurn) → CameTo t item first after (Ok None) k notes last_turns new new_notes new_last_turns →
          Midst g t.0 first after (frames_after k.steps f fs) new new_notes new_last_turns
      midst_on new new_notes new_last_turns came = on new new_notes new_last_turns (came_now new new_notes new_last_turns came)

      -- so many visits more may come
      pub visits_on : (new : Checker) (new_notes : List Note) (new_last_turns : List LastTurn) → CameTo t item first after (Ok None) k notes last_turns new new_notes new_last_turns →
          (new.counts.visits ≡ k.counts.visits + 1) × (k.counts.visits < 4194304)
      visits_on new new_notes new_last_turns came =
          let c = came_now new new_notes new_last_turns came in
          let before = now.stands.shown.shows.visits in
          let behind = c.stands.shown.shows.visits in
          (omega (arith, before, behind, c.visits_are), omega (arith, before, c.visit_left))

      pub midst_stop : (stop : FoundFault) (new : Checker) (new_notes : List Note) (new_last_turns : List LastTurn) → CameTo t item first after (Ok (Some stop)) k notes last_turns new new_notes new_last_turns →
          Stopped g stop new_notes new_last_turns
      midst_stop stop new new_notes new_last_turns came =
          came_stop t k notes last_turns now.stands now.here item went.visit_is went.comes_to next first after now.started stop new_notes new_last_turns went.within
          came.0 came.1 came.2 came.3 came.4 came.5

      pub visits_fall :
          (new : Checker) (new_notes : List Note) (new_last_turns : List LastTurn) → CameTo t item first after (Ok None) k notes last_turns new new_notes new_last_turns →
          3 * (4194305 - new.counts.visits) + length (frames_after k.steps f fs) < 3 * (4194305 - k.counts.visits) + length (fs ++ f ∷ [])
      visits_fall new new_notes new_last_turns came =
          let on = visits_on new new_notes new_last_turns came in
          let few = frames_few k.steps f fs in
          omega (arith, on.0, on.1, few, length-append fs (f ∷ []))

    pub idle_falls :
        next_item k.steps f ≡ None → 3 * (4194305 - k.counts.visits) + length (frames_after k.steps f fs) < 3 * (4194305 - k.counts.visits) + length (fs ++ f ∷ [])
    idle_falls none =
        let idle = idled (length k.bindings.slots) g.names g.steps f popped.own fs popped.is (ap (λ ss. next_item ss f) (sym now.stands.shown.steps_are) ∙ none) in
        let same : frames_after k.steps f fs ≡ fs = ap (λ ss. frames_after ss f fs) now.stands.shown.steps_are ∙ idle.1 in
        omega (arith, ap length same, length-append fs (f ∷ []))

-- ---- the loop over the frames

-- a task goes on: there is something that is unfolded so, and whatever was, still is
pub record GoesOn (t first after : ℕ) (was : List OpenBody) (old : Checker) (old_notes : List Note) (old_last_turns : List LastTurn) (frames : List OpenBody) (k : Checker) (notes : List Note)
    (last_turns : List LastTurn) : Type 0 where
  pub some : HasMidst t first after frames k notes last_turns
  pub all : (g : NamedProgram) → Midst g t first after was old old_notes old_last_turns → Midst g t first after frames k notes last_turns

pub goes_further :
    (t first after : ℕ) (was : List OpenBody) (old : Checker) (old_notes : List Note) (old_last_turns : List LastTurn) (frames : List OpenBody) (k : Checker) (notes : List Note) (last_turns : List LastTurn)
    (new_frames : List OpenBody) (new : Checker) (new_notes : List Note) (new_last_turns : List LastTurn) → GoesOn t first after was old old_notes old_last_turns frames k notes last_turns →
    ((g : NamedProgram) → Midst g t first after frames k notes last_turns → Midst g t first after new_frames new new_notes new_last_turns) →
    GoesOn t first after was old old_notes old_last_turns new_frames new new_notes new_last_turns
goes_further t first after was old old_notes old_last_turns frames k notes last_turns new_frames new new_notes new_last_turns go on =
    record { some = (go.some.0, on go.some.0 go.some.1); all = λ g m. on g (go.all g m) }
