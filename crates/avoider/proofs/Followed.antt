-- What an order that has followed statuses says of the dead.
use Rattle.std.proofs.Common.{◌≡◌, ℕ, zero, suc, ◌+◌, ◌<◌, ◌≤◌, List, [], Option, None, Some, Result, Ok, Err, length, refl, sym, ◌∙◌, ap, subst, inl, inr, arith, get_or}
use Rattle.std.specs.Prelude.{Contains, All, IfOk, MatchOption}
use Rattle.std.proofs.lemmas.Bool.{cases_lt}
use Rattle.std.proofs.lemmas.List.{get_or_past}
use Rattle.std.proofs.lemmas.List.Elements.{All-contains, All-map, Contains-get_or}
use Rattle.armus_base.proofs.Elements.{nothing_in_nil}
use Rattle.armus_base.specs.calls.Relations.{IsInClosedSet, KeepsOn}
use Rattle.armus_base.specs.CheckedPlans.{IsCheckedPlan}
use Rattle.armus_base.specs.Deadlocks.{IsDeadBy, NobodyDead, WouldBeDead}
use Rattle.armus_base.specs.Finals.{is_awaited}
use Rattle.armus_base.specs.Plans.{Blocks}
use Rattle.armus_base.specs.Runs.{IsReachable}
use Rattle.armus_base.specs.States.{State, after, if_published, updated}
use Rattle.armus_base.specs.Graphs.{WaitsFor}
use Rattle.armus_base.specs.declared.event.Event.{Event}
use Rattle.armus_base.specs.declared.ids.TaskId.{TaskId}
use Rattle.armus_base.specs.declared.status.Status.{Status}
use Rattle.armus_base.proofs.DeadByStatuses.{dead_by_final}
use Rattle.armus_base.proofs.SerialIsAvoided.{publishing_leaves_nobody_dead}
use Rattle.armus_base.proofs.StatusesAre.{statuses_are}
use Rattle.armus_base.proofs.Walks.{closed_from_reaches}
use Rattle.dep_state.specs.calls.Deps.{Deps, IsDepsOf}
use Rattle.dep_state.proofs.DeadSets.{dead_by_list, dead_in_list, dead_to_waits, waits_to_dead}
use Rattle.order_graph.specs.calls.Following.{FindsCycle, HasFollowed}
use Rattle.order_graph.specs.calls.Orders.{OrderValue, IsEdge, IsOrder, IsTaskOf, position_of, successors_of}
use Rattle.pl_core.specs.calls.Moves.{IsWorldStep}
use Rattle.pl_core.specs.calls.Awaiting.{awaited_statuses}
use Rattle.pl_core.specs.calls.Stands.{IsAtAwaitOf}
use Rattle.pl_core.specs.calls.Worlds.{WorldValue, places_of, state_of}
use Rattle.verdict.specs.declared.found.Cycle.{Cycle}
use Rattle.avoider.specs.calls.Decisions.{IsDecision, IsPublished, supposed_statuses}
use Rattle.avoider.specs.calls.Kept.{HoldsIfPublished, HoldsPairs}
use Rattle.avoider.specs.declared.decision.Decision.{Decision}
use Rattle.avoider.specs.declared.decision.Decision.TheVariants.{Published, Refused}
use Rattle.avoider.specs.inside.Followings.{HoldsOrOtherDead}
use Rattle.avoider.proofs.Supposing.{blocks_next, supposed_of_plan}

-- the tasks of the relations are those of the statuses
pub deps_tasks : (ss : List Status) (d : Deps) → IsDepsOf ss d → (o : OrderValue) → ((s : Status) → Contains ss s → IsTaskOf o s.t) → All (IsTaskOf o) d.tasks
deps_tasks ss d is o tasks =
    let all : All (λ s. IsTaskOf o s.t) ss = λ k s lt. tasks (get_or ss k s) (Contains-get_or ss k s lt) in
    rw is.tasks (All-map (IsTaskOf o) (λ s. s.t) ss all)

-- an edge has a task at each end
from_task : (o : OrderValue) → IsOrder o → (a b : TaskId) → IsEdge o a b → IsTaskOf o a
from_task o ok a b h =
    elim (cases_lt a.0 (length o.edges)) [
      | inl l ↦ omega (arith, ok.sized)
      | inr past ↦ absurd (nothing_in_nil b (subst (λ r. Contains {X = TaskId} r b) (get_or_past o.edges a.0 [] past) h))
    ]

to_task : (o : OrderValue) → IsOrder o → (a b : TaskId) → IsEdge o a b → IsTaskOf o b
to_task o ok a b h = All-contains (IsTaskOf o) (successors_of o a) b (ok.are_tasks a.0 [] (omega (arith, ok.sized, from_task o ok a b h))) h

-- in a set that edges need not leave, positions would go up for ever
climbs_on :
    (o : OrderValue) → IsOrder o → (set : List TaskId) → KeepsOn (IsEdge o) set → (n : ℕ) (a : TaskId) → Contains set a → IsTaskOf o a →
    length o.positions ≤ position_of o a + n → ⊥
climbs_on o ok set keeps zero a m task le = omega (arith, ok.inside a task)
climbs_on o ok set keeps (suc n) a m task le =
    let (b, h, l) = keeps a m in
    climbs_on o ok set keeps n b l (to_task o ok a b h) (omega (arith, ok.forward a b h))

no_closed_set : (o : OrderValue) → IsOrder o → (a : TaskId) → IsInClosedSet (IsEdge o) a → ⊥
no_closed_set o ok a (set, m, keeps) =
    let (b, h, l) = keeps a m in
    climbs_on o ok set keeps (length o.positions) a m (from_task o ok a b h) (omega arith)

module _ (ss : List Status) (old new : OrderValue) where
  -- where the edges are the pairs, nobody is dead by the statuses
  pub followed_alive : IsOrder new → HasFollowed ss old new → (u : ℕ) → IsDeadBy ss u → ⊥
  followed_alive ok has u dead =
      let t : TaskId = record { 0 = u } in
      let (set, m, keeps) = dead_to_waits ss t (dead_in_list ss t dead) in
      no_closed_set new ok t (set, m, λ a l. let (b, w, n) = keeps a l in (b, (has.edges a b).1 w, n))

  pub followed_pairs : HasFollowed ss old new → HoldsPairs ss old new
  followed_pairs has = record { edges = has.edges; stays = has.stays }

  -- where the pairs have a cycle, somebody is
  pub cycle_dead : FindsCycle ss old new → (u : ℕ) × IsDeadBy ss u
  cycle_dead finds = let (t, h) = finds.cycle in (t.0, dead_by_list ss t (waits_to_dead ss t (closed_from_reaches (WaitsFor ss) t h)))

  -- in a list of which another task is dead any cycle may be found
  pub holds_or_dead : {E : Type 0} → FindsCycle ss old new → (r : Result (Option Cycle) E) → IfOk r (HoldsOrOtherDead ss old new)
  holds_or_dead finds (Ok None) = inr (cycle_dead finds)
  holds_or_dead finds (Ok (Some c)) = tt
  holds_or_dead finds (Err e) = tt

module _ (w : WorldValue) (checked : IsCheckedPlan w.plan) (reach : IsReachable w.plan (places_of w)) (t : ℕ) (task : t < length w.plan.parents) (e : Event) where
  -- where the task would not be dead, nobody is dead by the statuses that have it published
  pub nobody_by_statuses : NobodyDead (state_of w) → (WouldBeDead (state_of w) t e → ⊥) → (u : ℕ) → IsDeadBy (awaited_statuses w.plan (if_published (state_of w) t e)) u → ⊥
  nobody_by_statuses nobody alive u dead =
      publishing_leaves_nobody_dead (state_of w) t e nobody alive u
      ((dead_by_final w.plan (if_published (state_of w) t e) u (supposed_of_plan w checked reach t task e)).0 dead)

  -- a step at the await makes the state in which it is published
  pub published_state : (new : WorldValue) → IsAtAwaitOf w t e → IsWorldStep w new t → state_of new ≡ if_published (state_of w) t e
  published_state new before s =
      let block = blocks_next w t e before in
      let is : s.action ≡ Blocks block.0 = (let both : Some s.action ≡ Some (Blocks block.0) = sym s.next ∙ block.1 in cc) in
      s.state ∙ ap (after (state_of w) t) is ∙
      ap (λ o. let v : State = record (state_of w) { published = updated (state_of w).published t o } in v) block.2

  pub published_statuses :
      (new : WorldValue) → IsAtAwaitOf w t e → IsWorldStep w new t → awaited_statuses new.plan (state_of new) ≡ awaited_statuses w.plan (if_published (state_of w) t e)
  published_statuses new before s = ap (λ p. awaited_statuses p (state_of new)) s.plan ∙ ap (awaited_statuses w.plan) (published_state new before s)

  -- so where the await was published an order that has followed those statuses has the pairs of the new ones
  pub pairs_if_published :
      NobodyDead (state_of w) → IsAtAwaitOf w t e → (new : WorldValue) (old now : OrderValue) (found : Option Cycle) → HoldsOrOtherDead (supposed_statuses w t e) old now found →
      (d : Decision) → MatchOption found (d ≡ Published e) (λ c. d ≡ Refused c) → IsDecision w new t d → HoldsIfPublished (awaited_statuses new.plan (state_of new)) old now d
  pairs_if_published nobody before new old now (Some c) pairs d is decision = subst (HoldsIfPublished (awaited_statuses new.plan (state_of new)) old now) (sym is) tt
  pairs_if_published nobody before new old now None pairs d is decision =
      let published : IsPublished w new t e = subst (IsDecision w new t) is decision in
      subst (HoldsIfPublished (awaited_statuses new.plan (state_of new)) old now) (sym is)
      (rw (published_statuses new before published.step) (elim pairs [
        | inl holds ↦ holds
        | inr (u, dead) ↦ absurd (nobody_by_statuses nobody published.alive u dead)
      ]))

-- the tasks of these statuses are tasks of the plan
pub supposed_tasks :
    (w : WorldValue) → IsCheckedPlan w.plan → (t : ℕ) (e : Event) (s : Status) → Contains (awaited_statuses w.plan (if_published (state_of w) t e)) s →
    s.t.0 < length w.plan.parents
supposed_tasks w checked t e s m = (((statuses_are w.plan (if_published (state_of w) t e) (is_awaited w.plan (if_published (state_of w) t e)) checked).events s.t.0 s.event).0
    (s, m, refl, refl)).0
