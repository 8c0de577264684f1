-- The dead of the statuses of a collect: all that were known to be dead before it are among them, and only such as are known to be after it.
use Rattle.std.proofs.Common.{◌≡◌, ℕ, ◌<◌, Bool, true, false, List, Option, Some, None, length, get_or, sym, refl, ap, ◌∙◌, subst}
use Rattle.std.specs.Prelude.{All, Contains, map, not}
use Rattle.std.proofs.lemmas.List.Elements.{All-contains, Contains-get_or}
use Rattle.armus_base.specs.declared.ids.TaskId.{TaskId}
use Rattle.armus_base.specs.declared.status.Dead.{Dead}
use Rattle.armus_base.specs.DeadLists.{IsDeadList}
use Rattle.armus_base.specs.declared.event.Event.{Event}
use Rattle.armus_base.specs.declared.status.Status.{Status}
use Rattle.armus_base.specs.Plans.{Plan}
use Rattle.armus_base.specs.States.{State}
use Rattle.armus_base.specs.calls.Runs.{IsPrefix}
use Rattle.armus_base.specs.Runs.{Place}
use Rattle.armus_base.specs.Places.{published_after, state_at}
use Rattle.armus_base.specs.CheckedPlans.{IsCheckedPlan}
use Rattle.armus_base.specs.calls.Boards.{IsLawful}
use Rattle.armus_base.specs.Deadlocks.{IsAtPhase, IsDeadBy, IsDeadIn, IsDeadlockedSet, IsImpededWithin, IsListedAt, IsListedOn, IsPublishedOn}
use Rattle.armus_base.specs.calls.Decisions.{HasFound}
use Rattle.armus_base.specs.calls.Seats.{IsAsFarOn, IsKnownDead}
use Rattle.armus_base.proofs.BoardRuns.{lawful_is_reachable, nobody_is_known_dead}
use Rattle.armus_base.proofs.LeastLawful.{least_lawful_exists}
use Rattle.armus_base.specs.calls.FinalLaws.{IsOfPlan}
use Rattle.armus_base.proofs.DeadByStatuses.{dead_by_final, run_is_of_plan}
use Rattle.armus_base.proofs.Reachable.{collected_is_dead_at_reachable, reachable_is_fixed}
use Rattle.board.specs.declared.mode.Mode.{Mode}
use Rattle.board.specs.calls.Views.{avoids, seen}
use Rattle.board.specs.calls.Seats.{Frame, IsOf, Known}
use Rattle.phase_scan.specs.calls.Looks.{LoadsAlone}
use Rattle.phase_scan.proofs.Loads.{prefix_both}
use Rattle.phase_scan.specs.calls.Collected.{IsCollected, IsListedAsIn}
use Rattle.phase_scan.specs.calls.Collecting.{HasCollected}
use Rattle.phase_scan.specs.calls.Settled.{KnowsAll, TellsState, seen_state}
use Rattle.phase_scan.proofs.Collecting.{cells_listed, cells_possible}
use Rattle.phase_scan.proofs.Farther.{IsPossible, far_of_viewer}
use Rattle.phase_scan.proofs.Standing.{dead_place, published_begun, same_phases}
use Rattle.collector.specs.declared.verdict.Verdict.{Verdict}
use Rattle.collector.specs.inside.Names.{AreFresh}
use Rattle.collector.specs.calls.Passes.{HasDeadOf, InEachState, IsKnownDeadTo, IsPassVerdict, was_named}
use Rattle.collector.proofs.Fresh.{Contains-map, filter_inside}

module _ (before now : Known) (list : List Status) (checked : IsCheckedPlan before.view.plan) (goes : LoadsAlone before now)
    (listed : (t : ℕ) (e : Event) → IsListedOn list t e → t < length before.view.plan.parents) (possible : IsPossible before (λ s. Unit {0}))
    (c : IsCollected list before now) where
  abbrev plan : Plan
  plan = before.view.plan

  known_of : (t : ℕ) → IsKnownDeadTo before t → IsKnownDead (avoids before.view.mode) plan before.view.own (seen before.view) t
  known_of t known a lock lawful far = known a lock lawful (far_of_viewer plan before.view.own a (seen before.view) far)

  -- a task that is known to be dead is listed as in each lawful state in which it is dead
  listed_as : (t : ℕ) → IsKnownDeadTo before t → (a : ℕ → Place) (lock : Option ℕ) → IsLawful (avoids before.view.mode) plan a lock →
      IsDeadIn (state_at plan a) t → IsListedAsIn list (state_at plan a) t
  listed_as t known a lock lawful dead =
      let w = possible.places in
      let known_own = known_of t known in
      let dead_then = known_own w possible.lock possible.lawful possible.far in
      let same = dead_place plan checked (avoids before.view.mode) t a w lock possible.lock lawful possible.lawful dead dead_then in
      let (e, on, is, phases) = c.dead t known_own w possible.lock possible.lawful possible.far in
      let here : (state_at plan a).published t ≡ Some e = ap (λ (v : Place). published_after plan t v.done) same ∙ on in
      let begun : 0 < (a t).done = published_begun plan checked t (a t).done e here in
      let begun_then : 0 < (w t).done = subst (λ (v : Place). 0 < v.done) same begun in (
        e,
        here,
        is,
        λ f n awaited. (
          λ has. (phases f n awaited).0 (same_phases plan checked (avoids before.view.mode) w a possible.lock lock possible.lawful lawful t f.p.0 (Some n)
              begun_then (sym same) has),
          λ has. same_phases plan checked (avoids before.view.mode) a w lock possible.lock lawful possible.lawful t f.p.0 (Some n) begun same ((phases f n awaited).1 has),
        ),
      )

  -- a set that is deadlocked in a lawful state, and each of whose tasks is known to be dead, is deadlocked in the list
  deadlocked_listed :
      (tasks : ℕ → Bool) (a : ℕ → Place) (lock : Option ℕ) → IsLawful (avoids before.view.mode) plan a lock →
      IsDeadlockedSet (IsPublishedOn (state_at plan a)) (IsAtPhase (state_at plan a)) tasks → ((u : ℕ) → tasks u ≡ true → IsKnownDeadTo before u) →
      IsDeadlockedSet (IsListedOn list) (IsListedAt list) tasks
  deadlocked_listed tasks a lock lawful deadlocked known = record { some = deadlocked.some; each = each }
    where
      as_in : (u : ℕ) → tasks u ≡ true → IsListedAsIn list (state_at plan a) u
      as_in u inside = listed_as u (known u inside) a lock lawful (record { tasks = tasks; inside = inside; deadlocked = deadlocked })

      each : (u : ℕ) → tasks u ≡ true → IsImpededWithin (IsListedOn list) (IsListedAt list) tasks u
      each u inside =
          let held = deadlocked.each u inside in
          let (e, on, is, phases) = as_in u inside in
          let same : e ≡ held.event = (let here = held.waits in cc) in
          let waits : IsListedOn list u held.event = subst (IsListedOn list u) same is in
          let (s, there, task, event) = waits in
          let other = as_in held.by held.inside in
          record {
            event = held.event;
            waits = waits;
            by = held.by;
            inside = held.inside;
            phase = held.phase;
            impedes = (other.3 held.event held.phase (s, there, event)).0 held.impedes;
            below = held.below;
          }

  -- all that were known to be dead before are dead by the list
  pub known_named : (t : ℕ) → IsKnownDeadTo before t → IsDeadBy list t
  known_named t known = by_mode (avoids before.view.mode) refl
    where
      by_mode : (b : Bool) → avoids before.view.mode ≡ b → IsDeadBy list t
      by_mode true is =
          absurd (nobody_is_known_dead plan None (seen before.view) possible.places possible.lock t checked
          (subst (λ b. IsLawful b plan possible.places possible.lock) is possible.lawful)
          (far_of_viewer plan before.view.own possible.places (seen before.view) possible.far)
          (subst (λ b. IsKnownDead b plan None (seen before.view) t) is known))
      by_mode false is =
          let least = least_lawful_exists plan (seen before.view) possible.places possible.lock checked
          (subst (λ b. IsLawful b plan possible.places possible.lock) is possible.lawful)
          (far_of_viewer plan before.view.own possible.places (seen before.view) possible.far) in
          let a = least.0 in
          let dead : IsDeadIn (state_at plan a) t = (least.2 t).0 (subst (λ b. IsKnownDead b plan None (seen before.view) t) is known) in
          record {
            tasks = dead.tasks;
            inside = dead.inside;
            deadlocked = deadlocked_listed dead.tasks a None (subst (λ b. IsLawful b plan a None) (sym is) least.1.lawful) dead.deadlocked
                (λ u inside. subst (λ b. IsKnownDead b plan None (seen before.view) u) (sym is)
                ((least.2 u).1 (record { tasks = dead.tasks; inside = inside; deadlocked = dead.deadlocked })));
          }

  -- the tasks of a set that is deadlocked in the list stand where they were found, in each state that is possible after
  stand_there :
      (t : ℕ) → IsDeadBy list t → (a : ℕ → Place) (lock : Option ℕ) → IsLawful (avoids before.view.mode) plan a lock → IsAsFarOn plan None a (seen now.view) →
      a t ≡ c.at t × IsDeadIn (state_at plan a) t
  stand_there t dead a lock lawful far =
      let there = collected_is_dead_at_reachable plan a list dead.tasks c.at c.found checked (lawful_is_reachable (avoids before.view.mode) plan a lock lawful)
      dead.deadlocked found in
      (there.0 t dead.inside, record { tasks = dead.tasks; inside = dead.inside; deadlocked = there.1 })
    where
      later : (u : ℕ) (b : Place) (e : Event) → IsListedOn list u e → IsPrefix b ((seen now.view).places u) → IsPrefix b (a u)
      later u b e is near =
          prefix_both b ((seen now.view).places u) (a u) near (far.later u (listed u e is))

      found : HasFound plan (λ u. dead.tasks u ≡ true) list c.at c.found a
      found =
          record {
            waiting = λ u e inside is. c.places.waiting u e tt is;
            before = λ u e inside is. later u (c.at u) e is (c.places.before u e tt is);
            phases = λ u p n inside is. c.places.phases u p n tt is;
            phases_before = λ u p n inside is.
                let (s, there, task, phase) = is in
                later u (c.found u p) s.event (s, there, task, refl) (c.places.phases_before u p n tt is);
          }

  -- in each state that is possible after, as a fact about the seat's own plan then
  after_of : (Holds : State → Type 0) → ((a : ℕ → Place) (lock : Option ℕ) → IsLawful (avoids before.view.mode) plan a lock →
      IsAsFarOn plan None a (seen now.view) → Holds (state_at plan a)) → InEachState now Holds
  after_of Holds holds a lock lawful far =
      subst (λ (q : Plan). Holds (state_at q a)) (sym goes.same.plan)
      (holds a lock
      (subst (λ (d : Mode). IsLawful (avoids d) plan a lock) goes.same.mode (subst (λ (q : Plan). IsLawful (avoids now.view.mode) q a lock) goes.same.plan lawful))
      (subst (λ (q : Plan). IsAsFarOn q None a (seen now.view)) goes.same.plan far))

  -- only such as are known to be dead after are dead by the list
  pub named_known : (t : ℕ) → IsDeadBy list t → IsKnownDeadTo now t
  named_known t dead = after_of (λ s. IsDeadIn s t) (λ a lock lawful far. (stand_there t dead a lock lawful far).1)

  -- each on its event in every state
  pub named_event : (t : ℕ) (e : Event) → IsDeadBy list t → IsListedOn list t e → InEachState now (λ s. s.published t ≡ Some e)
  named_event t e dead is =
      after_of (λ s. s.published t ≡ Some e)
      (λ a lock lawful far. ap (λ (v : Place). published_after plan t v.done) (stand_there t dead a lock lawful far).0 ∙ c.places.waiting t e tt is)

  -- the verdict on the statuses
  pub is_verdict :
      (names : List Bool) (verdict : Verdict) → IsDeadList list verdict.dead → AreFresh names list verdict.dead verdict.fresh →
      IsPassVerdict names list before now verdict
  is_verdict names verdict dead fresh =
      record {
        dead = dead;
        all = λ t known. (dead.exact t).1 (known_named t.0 known);
        only = λ t inside. named_known t.0 ((dead.exact t).0 inside);
        fresh = fresh.tasks;
        events = λ d inside.
            let on = All-contains (λ (v : Dead). IsListedOn list v.t.0 v.event) verdict.fresh d fresh.events inside in
            let named : Contains (map (λ (v : Dead). v.t) verdict.fresh) d.t = Contains-map (λ (v : Dead). v.t) verdict.fresh d inside in
            let one : Contains verdict.dead d.t = filter_inside (λ t. not (was_named names t.0)) verdict.dead d.t (subst (λ xs. Contains xs d.t) fresh.tasks named) in
            named_event d.t.0 d.event ((dead.exact d.t).0 one) on;
      }

-- where the list has the statuses of a state, its dead are those of the state
dead_of_state : (before : Known) (list : List Status) (dead : List TaskId) → IsCheckedPlan before.view.plan → TellsState list before →
    IsDeadList list dead → HasDeadOf (seen_state before) dead
dead_of_state before list dead checked tells are t =
    let plan = before.view.plan in
    let s = seen_state before in
    let reach = lawful_is_reachable (avoids before.view.mode) plan (seen before.view).places tells.lawful.0 tells.lawful.1 in
    let of_plan : IsOfPlan plan s = subst (IsOfPlan plan) (reachable_is_fixed plan (seen before.view).places checked reach).0 (run_is_of_plan plan reach.steps checked reach.run) in
    let same = dead_by_final plan s t.0 of_plan in (
      λ inside. same.0 (subst (λ (xs : List Status). IsDeadBy xs t.0) tells.statuses ((are.exact t).0 inside)),
      λ is. (are.exact t).1 (subst (λ (xs : List Status). IsDeadBy xs t.0) (sym tells.statuses) (same.1 is)),
    )

-- a pass of a collector of this board
module _ (f : Frame) (before now : Known) (list : List Status) (of : IsOf before f) (c : HasCollected f.plan list before now) where
  own : IsCheckedPlan before.view.plan
  own = subst IsCheckedPlan c.goes_on.same.plan c.goes_on.kept.checked

  checked : IsCheckedPlan f.plan
  checked = subst IsCheckedPlan of.plan own

  within : (t : ℕ) (e : Event) → IsListedOn list t e → t < length f.plan.parents
  within = cells_listed f list before now of checked c.collect

  within_own : (t : ℕ) (e : Event) → IsListedOn list t e → t < length before.view.plan.parents
  within_own t e is = subst (λ (q : Plan). t < length q.parents) (sym of.plan) (within t e is)

  possible : IsPossible before (λ s. Unit {0})
  possible = cells_possible f list before now of checked c.collect

  pub pass_verdict :
      (names : List Bool) (verdict : Verdict) → IsDeadList list verdict.dead → AreFresh names list verdict.dead verdict.fresh → IsPassVerdict names list before now verdict
  pass_verdict = is_verdict before now list own c.goes_on within_own possible c.tells

  pub pass_listed : (dead : List TaskId) → IsDeadList list dead → All (λ t. (e : Event) × IsListedOn list t.0 e) dead
  pass_listed dead are k d l =
      let x = get_or dead k d in
      let held = (are.exact x).0 (Contains-get_or dead k d l) in
      let one = held.deadlocked.each x.0 held.inside in
      (one.event, one.waits)

  pub pass_within : (dead : List TaskId) → IsDeadList list dead → All (λ t. t.0 < length f.plan.parents) dead
  pass_within dead are k d l = (let (e, is) = pass_listed dead are k d l in within (get_or dead k d).0 e is)

  pub pass_settled : (dead : List TaskId) → IsDeadList list dead → KnowsAll before → HasDeadOf (seen_state before) dead
  pass_settled dead are all = dead_of_state before list dead own (c.settled all) are
