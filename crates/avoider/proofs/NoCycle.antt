-- On a board that avoids deadlock the statuses of a collect have no wait-for cycle.
use Rattle.std.proofs.Common.{◌≡◌, ℕ, ◌<◌, true, None, List, length, sym, ap, ◌∙◌, subst}
use Rattle.std.proofs.lemmas.Option.{slice_get_within}
use Rattle.armus_base.specs.declared.ids.TaskId.{TaskId}
use Rattle.armus_base.specs.declared.status.Status.{Status}
use Rattle.armus_base.specs.calls.Boards.{IsLawful}
use Rattle.armus_base.specs.CheckedPlans.{IsCheckedPlan}
use Rattle.armus_base.specs.calls.Decisions.{HasFound}
use Rattle.armus_base.specs.calls.FinalLaws.{AreStatuses}
use Rattle.armus_base.specs.Finals.{is_awaited}
use Rattle.armus_base.specs.Graphs.{WaitsFor}
use Rattle.armus_base.specs.Plans.{Plan}
use Rattle.armus_base.specs.calls.Relations.{ReachesCycle}
use Rattle.armus_base.specs.calls.Runs.{IsPrefix}
use Rattle.armus_base.proofs.StatusesAre.{statuses_are}
use Rattle.armus_base.proofs.Walks.{closed_from_reaches}
use Rattle.board.specs.calls.Views.{avoids, seen}
use Rattle.board.specs.calls.Seats.{Known}
use Rattle.dep_state.proofs.DeadSets.{waits_to_dead}
use Rattle.phase_scan.specs.calls.Collecting.{HasCollected}
use Rattle.phase_scan.proofs.Loads.{prefix_both}
use Rattle.phase_scan.proofs.Possible.{Possible, collect_possible}
use Rattle.avoider.specs.calls.OnBoard.{CollectedHaveNoCycle}
use Rattle.avoider.proofs.FoundAlive.{no_deadlocked_list}

module _ (list : List Status) (before now : Known) (avoiding : avoids before.view.mode ≡ true) (collected : HasCollected before.view.plan list before now) where
  abbrev plan : Plan
  plan = before.view.plan

  checked : IsCheckedPlan plan
  checked = subst IsCheckedPlan collected.goes_on.same.plan collected.goes_on.kept.checked

  possible : Possible now
  possible = collect_possible plan list before now (slice_get_within plan.parents 0 None checked.tables.root) collected.collect

  are : AreStatuses plan collected.collect.found (is_awaited plan collected.collect.found) list
  are =
      subst (AreStatuses plan collected.collect.found (is_awaited plan collected.collect.found)) (sym collected.collect.statuses)
      (statuses_are plan collected.collect.found (is_awaited plan collected.collect.found) checked)

  lawful : IsLawful true plan possible.places possible.lock
  lawful =
      subst (λ b. IsLawful b plan possible.places possible.lock) (ap avoids collected.goes_on.same.mode ∙ avoiding)
      (subst (λ (q : Plan). IsLawful (avoids now.view.mode) q possible.places possible.lock) collected.goes_on.same.plan possible.lawful)

  later : (u : ℕ) → u < length plan.parents → IsPrefix ((seen now.view).places u) (possible.places u)
  later u l = possible.far.later u (subst (λ (q : Plan). u < length q.parents) (sym collected.goes_on.same.plan) l)

  has : HasFound plan (λ u. Unit {0}) list collected.tells.at collected.tells.found possible.places
  has =
      let places = collected.tells.places in
      record {
        waiting = places.waiting;
        before = λ u e one listed.
            prefix_both (collected.tells.at u) ((seen now.view).places u) (possible.places u) (places.before u e one listed) (later u ((are.events u e).0 listed).0);
        phases = places.phases;
        phases_before = λ u p n one listed.
            prefix_both (collected.tells.found u p) ((seen now.view).places u) (possible.places u) (places.phases_before u p n one listed)
            (later u ((are.phases u p n).0 listed).task);
      }

  no_cycle_here : (t : TaskId) → ReachesCycle (WaitsFor list) t → ⊥
  no_cycle_here t cycle =
      let (set, m, deadlocked) = waits_to_dead list t (closed_from_reaches (WaitsFor list) t cycle) in
      no_deadlocked_list plan checked possible.places possible.lock lawful (λ u. Unit {0}) list collected.tells.at collected.tells.found has set t (λ v inside. tt) m deadlocked

pub no_cycle : CollectedHaveNoCycle
no_cycle list before now avoiding collected = no_cycle_here list before now avoiding collected
