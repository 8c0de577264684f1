-- With an end for tasks that are done a run writes a legal and lasting trace, in which the dead are stuck, and those who wait for one that is done.
use Rattle.std.proofs.Common.{◌≡◌, ℕ, Some, None, Option, List, [], ◌∷◌, ◌++◌, length, refl, sym, ◌∙◌, ap, inl, inr}
use Rattle.std.specs.Prelude.{Contains}
use Rattle.std.proofs.lemmas.Bool.{leb-false}
use Rattle.armus_base.specs.declared.event.Event.{Event}
use Rattle.armus_base.specs.Counts.{IsDistinct}
use Rattle.armus_base.specs.Plans.{Action, Makes, Registers, Forks, Advances, Drops, Blocks, Passes, Refuses}
use Rattle.armus_base.specs.Runs.{state_after}
use Rattle.armus_base.specs.States.{State, Step}
use Rattle.armus_base.proofs.DeadByStatuses.{run_is_of_plan}
use Rattle.armus_base.proofs.Elements.{Contains-head, Contains-tail}
use Rattle.armus_base.proofs.EndsTell.{published_tells}
use Rattle.monitor_laws.specs.Faults.{most_listed, participant_in}
use Rattle.monitor_laws.specs.Lines.{TraceLine}
use Rattle.monitor_laws.specs.States.{Participant, TraceState, after_lines}
use Rattle.monitor_laws.specs.Traces.{HasNoWildcard, HasOrderedJoins, HasTrueGoes, HaveSameLinesOfNames, IsLegalTrace}
use Rattle.monitor_laws.proofs.Lasting.{true_and_ordered_lasts}
use Rattle.monitor_laws.proofs.Lawful.{IsLawfulState, lawful_lines}
use Rattle.monitor_laws.proofs.Rows.{name_is}
use Rattle.monitor_laws.proofs.Told.{all_are_told}
use Rattle.monitor_runs.specs.EndedTraces.{AreStuckOfRun, EndedRunsAreTraces, IsStuckByName, end_lines}
use Rattle.monitor_runs.specs.RunTraces.{IsSameState, Naming, TellsNumber, condition_by, lines_of_run, lines_of_step}
use Rattle.monitor_runs.proofs.EndedStates.{IsEndedState, ended_after, faultless}
use Rattle.monitor_runs.proofs.Faultless.{HasRoom}
use Rattle.monitor_runs.proofs.Named.{AllLive, listed_or_new}
use Rattle.monitor_runs.proofs.OneLine.{IsWritten}
use Rattle.monitor_runs.proofs.RunTraces.{has_room, written}
use Rattle.monitor_runs.proofs.StuckAreDead.{its_phases, its_wait, member_listed}
use Rattle.monitor_runs.proofs.StuckWithEnds.{are_stuck}

-- before the ends
module _ (task phaser : Naming) (tells : TellsNumber task) (tells_phaser : TellsNumber phaser) (g : TraceState) (s : State) (lawful : IsLawfulState g) (live : AllLive g) (same : IsSameState task phaser g s) (room : HasRoom g) where
  waiting_listed : (t : ℕ) (e : Event) → s.published t ≡ Some e → (u : Participant) × Contains g.list u × (u.name ≡ task t)
  waiting_listed t e at = elim (listed_or_new g lawful (task t)) [
    | inl is ↦ (participant_in g (task t), is.listed, sym (name_is (task t) (participant_in g (task t)) is.there))
    | inr new ↦ absurd (let w = same.waits t ∙ ap (condition_by phaser) at in let e = ap (λ (x : Participant). x.condition) new.1 in cc)
  ]

  unended : IsEndedState task phaser g s []
  unended = record {
    names = same.tasks;
    phases = λ u within t p is. its_phases task phaser tells tells_phaser g s lawful live same u within t p is;
    conditions = λ u within t is. its_wait task phaser tells tells_phaser g s lawful live same u within t is;
    member = λ t p m at. let is = member_listed task phaser tells tells_phaser g s lawful live same t p m at in (participant_in g (task t), is.0, is.1);
    waiting = waiting_listed;
    few = leb-false most_listed (length g.list) room.listed;
  }

module _ (task phaser : Naming) (tells : TellsNumber task) (g : List TraceLine) (s : State) (legal : IsLegalTrace g) (goes : HasTrueGoes g) (ordered : HasOrderedJoins g) (begins : IsEndedState task phaser (after_lines g) s []) where
  ended_so : (done : List ℕ) → IsDistinct done → ((t : ℕ) → Contains done t → s.published t ≡ None) → IsLegalTrace (end_lines task done ++ g) × IsEndedState task phaser (after_lines (end_lines task done ++ g)) s done
  ended_so [] distinct idle = (legal, begins)
  ended_so (t ∷ done) distinct idle =
      let before = ended_so done distinct.1 (λ x within. idle x (Contains-tail t done x within)) in
      let lawful = lawful_lines (end_lines task done ++ g) in
      let own = idle t (Contains-head t done) in (
        (before.0, faultless task phaser tells (after_lines (end_lines task done ++ g)) s done lawful before.1 t distinct.0 own),
        ended_after task phaser tells (after_lines (end_lines task done ++ g)) s done lawful before.1 t distinct.0 own,
      )

  goes_so : (done : List ℕ) → HasTrueGoes (end_lines task done ++ g)
  goes_so [] = goes
  goes_so (t ∷ done) = (goes_so done, λ p n ends. absurd (let e = ends.2 in cc))

  ordered_so : (done : List ℕ) → HasOrderedJoins (end_lines task done ++ g)
  ordered_so [] = ordered
  ordered_so (t ∷ done) = (ordered_so done, λ p n joins. absurd (let e = joins.2 in cc))

-- no line of a run is of a wildcard
no_wildcard_step : (task phaser : Naming) (s : State) (t : ℕ) (x : Action) (g : List TraceLine) → HasNoWildcard g → HasNoWildcard (lines_of_step task phaser s t x ++ g)
no_wildcard_step task phaser s t (Makes p) g none = (none, refl)
no_wildcard_step task phaser s t (Registers c p) g none = (none, refl)
no_wildcard_step task phaser s t (Forks c) g none = none
no_wildcard_step task phaser s t (Advances p) g none = (none, refl)
no_wildcard_step task phaser s t (Drops p) g none = (none, refl)
no_wildcard_step task phaser s t (Blocks a) g none = (none, refl)
no_wildcard_step task phaser s t (Passes p) g none = (none, refl)
no_wildcard_step task phaser s t (Refuses a) g none = (none, refl)

no_wildcard_run : (task phaser : Naming) (h : List Step) → HasNoWildcard (lines_of_run task phaser h)
no_wildcard_run task phaser [] = tt
no_wildcard_run task phaser (e ∷ h) = no_wildcard_step task phaser (state_after h) e.task e.action (lines_of_run task phaser h) (no_wildcard_run task phaser h)

no_wildcard_ends : (task : Naming) (done : List ℕ) (g : List TraceLine) → HasNoWildcard g → HasNoWildcard (end_lines task done ++ g)
no_wildcard_ends task [] g none = none
no_wildcard_ends task (t ∷ done) g none = (no_wildcard_ends task done g none, refl)

-- a name that is stuck is so in whatever order the lines of different names come
stuck_mixed : (h c : List TraceLine) → HasNoWildcard h → HasNoWildcard c → HaveSameLinesOfNames h c → (t : List ℕ) → IsStuckByName (after_lines h) t → IsStuckByName (after_lines c) t
stuck_mixed h c none also same t (u, stuck, is) =
    let v = all_are_told h c u none also same stuck in
    (v.0, v.1, ap (λ (x : Participant). x.name) v.2 ∙ is)

pub ended_runs_are_traces : EndedRunsAreTraces
ended_runs_are_traces plan h task phaser done checked tells tells_phaser run distinct are_done =
    record {
      legal = ended.0;
      lasting = true_and_ordered_lasts all_lines (goes_so task phaser tells lines (state_after h) wrote.legal wrote.true_goes wrote.ordered begins done)
          (ordered_so task phaser tells lines (state_after h) wrote.legal wrote.true_goes wrote.ordered begins done);
      stuck = stuck;
      mixed = λ c none same t. (
        (λ is. (stuck t).0 (stuck_mixed c all_lines none no_wildcard same (task t) is)),
        λ is. stuck_mixed all_lines c no_wildcard none (λ name. sym (same name)) (task t) ((stuck t).1 is),
      );
    }
  where
    lines : List TraceLine
    lines = lines_of_run task phaser h

    all_lines : List TraceLine
    all_lines = end_lines task done ++ lines

    wrote : IsWritten task phaser lines (state_after h)
    wrote = (written plan checked task phaser tells tells_phaser h run).written

    idle : (t : ℕ) → Contains done t → (state_after h).published t ≡ None
    idle t within = by_event ((state_after h).published t) refl
      where
        by_event : (o : Option Event) → (state_after h).published t ≡ o → (state_after h).published t ≡ None
        by_event None at = at
        by_event (Some e) at = absurd (let goes_on = (published_tells plan checked h run t e at).1 in let over = (are_done t within).1 in let e = sym over ∙ goes_on in cc)

    begins : IsEndedState task phaser (after_lines lines) (state_after h) []
    begins =
        unended task phaser tells tells_phaser (after_lines lines) (state_after h) (lawful_lines lines) wrote.live wrote.same
        (has_room plan checked task phaser tells tells_phaser lines wrote.live (written plan checked task phaser tells tells_phaser h run).counted)

    ended : IsLegalTrace all_lines × IsEndedState task phaser (after_lines all_lines) (state_after h) done
    ended = ended_so task phaser tells lines (state_after h) wrote.legal wrote.true_goes wrote.ordered begins done distinct idle

    stuck : AreStuckOfRun task (state_after h) done (after_lines all_lines)
    stuck =
        are_stuck task phaser tells (after_lines all_lines) (state_after h) done (lawful_lines all_lines) ended.1 idle (length plan.parents)
        (run_is_of_plan plan h checked run).published (run_is_of_plan plan h checked run).member

    no_wildcard : HasNoWildcard all_lines
    no_wildcard = no_wildcard_ends task done lines (no_wildcard_run task phaser h)
