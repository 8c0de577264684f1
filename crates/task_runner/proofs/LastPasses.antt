-- What a pass tells whose viewer has taken all seats in: the state of the board at the places of its tasks.
use Rattle.std.proofs.Common.{◌≡◌, ℕ, ◌≤◌, Some, None, List, length, sym, ap, ◌∙◌, subst, arith}
use Rattle.std.proofs.lemmas.List.{get_or_past}
use Rattle.armus_base.specs.CheckedPlans.{IsCheckedPlan}
use Rattle.armus_base.specs.DeadLists.{IsDeadList}
use Rattle.armus_base.specs.Finals.{is_awaited, statuses_on}
use Rattle.armus_base.specs.Places.{state_at}
use Rattle.armus_base.specs.Plans.{Plan}
use Rattle.armus_base.specs.Runs.{Place, first_place}
use Rattle.armus_base.specs.calls.Seats.{IsAsFarOn}
use Rattle.armus_base.specs.States.{State}
use Rattle.armus_base.specs.declared.status.Status.{Status}
use Rattle.pl_core.specs.declared.place.Place.{Place as KeptPlace}
use Rattle.pl_core.specs.calls.Worlds.{places_at}
use Rattle.board.specs.declared.mode.Mode.TheVariants.{Detect}
use Rattle.board.specs.calls.Closing.{AreAllExact, AreLastOf}
use Rattle.board.specs.calls.Seats.{Frame, IsOf, IsSeat, Known}
use Rattle.board.specs.calls.Views.{seen}
use Rattle.phase_scan.specs.calls.Looks.{LoadsAlone}
use Rattle.phase_scan.proofs.Loads.{prefix_both}
use Rattle.phase_scan.specs.calls.Settled.{KnowsAll, seen_state}
use Rattle.board_runs.specs.calls.Turns.{Working}
use Rattle.board_runs.specs.calls.TaskSeats.{ArePlacesOf, AreTaskSeats, IsSeatIn, KnowsTasks}
use Rattle.board_runs.proofs.Closed.{all_exact, all_places}
use Rattle.collector.specs.calls.Passes.{HasDeadOf}
use Rattle.task_runner.specs.inside.LiveReporters.{HasPassed, Telling}
use Rattle.task_runner.proofs.BoardEnds.{there}

-- the statuses of a state, with phases on the awaited phasers
abbrev pub statuses_in : Plan → State → List Status
statuses_in plan s = statuses_on plan s (is_awaited plan s)

module _ (f : Frame) (detects : f.mode ≡ Detect) (tasks : List Working) (board_tasks : AreTaskSeats f (IsSeatIn tasks))
    (places : List KeptPlace) (are : ArePlacesOf f.plan tasks places) (before now : Known) (known : KnowsTasks f tasks before) (goes : LoadsAlone before now)
    (of : IsOf now f) (words : List ℕ) (end : AreLastOf f.plan Detect (seen now.view) words) (start : IsSeat before) (made : IsOf before f) where
  abbrev a : ℕ → Place
  a = end.last.places

  checked : IsCheckedPlan f.plan
  checked = subst IsCheckedPlan made.plan start.checked

  far : IsAsFarOn f.plan None a (seen before.view)
  far =
      record {
        later = λ u l. prefix_both ((seen before.view).places u) ((seen now.view).places u) (a u) (goes.seen_now.later u) (end.far.later u l);
        equal = λ u l is. end.far.equal u l (goes.seen_now.exact u ∙ is) ∙ goes.seen_now.here u is;
        scanned = λ u is. absurd (none_some u is);
      }
    where
      none_some : (u : ℕ) → None ≡ Some u → ⊥
      none_some u e = cc

  past : (t : ℕ) → length f.plan.parents ≤ t → (seen before.view).places t ≡ first_place
  past t l = get_or_past before.view.sight.places t first_place (let c = start.count in
      let p : length before.view.plan.parents ≡ length f.plan.parents = ap (λ (q : Plan). length q.parents) made.plan in omega arith)

  knows_all : KnowsAll before
  knows_all =
      subst (λ (q : Plan). AreAllExact q (seen before.view)) (sym made.plan)
      (all_exact f.plan Detect a end.last.lock checked end.last.lawful (seen before.view) far known.closed past)

  -- the state that the viewer has seen is that of the places
  same_state : seen_state before ≡ state_at f.plan (places_at f.plan places)
  same_state =
      ap (λ (q : Plan). state_at q (seen before.view).places) made.plan
      ∙ ap (state_at f.plan)
      (sym (all_places f.plan Detect a end.last.lock checked end.last.lawful (seen before.view) far known.closed past)
      ∙ sym (there f detects tasks board_tasks places are before now known goes of words end))

  module _ (live_reporter : Telling) (passed : HasPassed before live_reporter) where
    found : live_reporter.collector.statuses ≡ statuses_in f.plan (state_at f.plan (places_at f.plan places))
    found =
        (passed.statuses knows_all).statuses ∙ ap (λ (q : Plan). statuses_in q (seen_state before)) made.plan
        ∙ ap (statuses_in f.plan) same_state

    pub named_there : IsDeadList (statuses_in f.plan (state_at f.plan (places_at f.plan places))) live_reporter.last
    named_there = subst (λ (list : List Status). IsDeadList list live_reporter.last) found passed.named

    pub dead_there : HasDeadOf (state_at f.plan (places_at f.plan places)) live_reporter.last
    dead_there = subst (λ (s : State). HasDeadOf s live_reporter.last) same_state (passed.dead knows_all)
