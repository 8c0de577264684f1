-- A decision meets what the board asks of a publication and of a refusal.
use Rattle.std.proofs.Common.{◌≡◌, ◌≢◌, ℕ, true, List, Option, Some, None, length, sym, ap, ◌∙◌, subst, inl, inr}
use Rattle.std.specs.Prelude.{Contains, MatchOption, option_map, unwrap_or}
use Rattle.armus_base.specs.declared.event.Event.{Event}
use Rattle.armus_base.specs.declared.status.Status.{Status}
use Rattle.armus_base.specs.Avoidance.{Avoids, LeavesNobodyDead}
use Rattle.armus_base.specs.calls.Boards.{IsLawful}
use Rattle.armus_base.specs.Deadlocks.{IsDeadBy, IsListedOn, WouldBeDead}
use Rattle.armus_base.specs.calls.Decisions.{Decides}
use Rattle.armus_base.specs.Places.{kept, phases_after, state_at}
use Rattle.armus_base.specs.calls.Places.{phases_at_place}
use Rattle.armus_base.specs.Plans.{Aim, Blocks, Plan, Refuses}
use Rattle.armus_base.specs.Runs.{Place, next_place}
use Rattle.armus_base.specs.calls.Seats.{HasLockWith, InEachWithLock, IsAsFarOn, SeenBy}
use Rattle.armus_base.specs.Offsets.{target}
use Rattle.armus_base.specs.States.{State, awaited, event_at, event_on}
use Rattle.armus_base.proofs.BoardRuns.{nobody_dead_at}
use Rattle.armus_base.proofs.SerialIsAvoided.{publishing_leaves_nobody_dead}
use Rattle.board.specs.declared.view.View.{View}
use Rattle.board.specs.calls.Views.{avoids, action_after, next_action, own_place, place_in, seen, task_of}
use Rattle.board.specs.calls.Steps.{own_phase}
use Rattle.board.specs.calls.Locking.{FreesLock, IsWithLock, MayRefuse}
use Rattle.board.specs.calls.Seats.{IsSeat, Known, MakesStep, MayPublish}
use Rattle.board.proofs.Fitting.{moved_same}
use Rattle.board.proofs.Seated.{next_there}
use Rattle.phase_scan.specs.calls.Looks.{LoadsAlone}
use Rattle.phase_scan.proofs.Supposes.{own_phase_stays}
use Rattle.verdict.specs.calls.Cycles.{IsCycle}
use Rattle.verdict.specs.declared.found.Cycle.{Cycle}
use Rattle.order_graph.specs.calls.Orders.{OrderValue}
use Rattle.avoider.specs.calls.Decisions.{ExplainsDeath}
use Rattle.avoider.specs.calls.Kept.{HasPublishedByOrder, HoldsPairs}
use Rattle.avoider.specs.calls.OnBoard.{DropsBelow, HasPublished, HasRefused, InEachByLock, Judges}
use Rattle.avoider.specs.inside.Followings.{HoldsOrOtherDead}
use Rattle.avoider.specs.inside.Judged.{IsJudged}
use Rattle.avoider.proofs.CycleDead.{cycle_dead}
use Rattle.avoider.proofs.Dropping.{kept_all, own_place_next, place_at}
use Rattle.avoider.proofs.InHand.{decides, stands, stands_in_cycle}
use Rattle.avoider.proofs.OtherPairs.{pairs_of_others}

-- what comes next stays so while a seat makes loads alone
pub next_stays : (k m : Known) (t : ℕ) → IsSeat k → k.view.own ≡ Some t → LoadsAlone k m → next_action m.view ≡ next_action k.view
next_stays k m t seat own goes =
    let task : task_of m.view ≡ task_of k.view = ap (λ o. unwrap_or o 0) goes.same.own in
    let is_t : task_of k.view ≡ t = ap (λ o. unwrap_or o 0) own in
    let here : own_place m.view ≡ own_place k.view =
    ap (place_in m.view.sight.places) (task ∙ is_t) ∙ goes.seen_now.here t (seat.own t own).1 ∙ ap (place_in k.view.sight.places) (sym is_t) in
    λ i. action_after (goes.same.plan i) (task i) (here i).done (here i).dropped

-- a seat that has refused its await and freed the lock
module _ (aim : Aim) (store stored free : Known) (next : next_action store.view ≡ Some (Blocks aim)) (step : MakesStep (Refuses aim) store stored)
    (freed : FreesLock stored free) where
  free_place : own_place free.view ≡ place_at (own_place store.view).done 0
  free_place =
      ap own_place freed.view
      ∙ own_place_next (Refuses aim) store stored (ap (λ (s : SeenBy). s.places (task_of store.view)) step.seen_now
      ∙ moved_same (seen store.view).places (task_of store.view) (Refuses aim)) step.same.own
      ∙ ap (λ o. next_place (own_place store.view).done o (Refuses aim)) (next_there store.view (Blocks aim) next).0

  pub free_refused : (own_place free.view).dropped ≡ Some 0
  free_refused = ap (λ (v : Place). v.dropped) free_place

  pub free_phases : own_phase free.view ≡ own_phase store.view
  free_phases =
      let same_plan : free.view.plan ≡ store.view.plan = ap (λ (v : View). v.plan) freed.view ∙ step.same.plan in
      let same_task : task_of free.view ≡ task_of store.view = ap task_of freed.view ∙ ap (λ o. unwrap_or o 0) step.same.own in
      (λ i. phases_at_place (same_plan i) (same_task i) (free_place i))
      ∙ kept_all (phases_after store.view.plan (task_of store.view) (own_place store.view).done)
      ∙ ap (λ o. kept o (phases_after store.view.plan (task_of store.view) (own_place store.view).done)) (sym (next_there store.view (Blocks aim) next).0)

module _ (list : List Status) (aim : Aim) (before now : Known) (found : Option Cycle) (t : ℕ) (seat : IsSeat before) (own : before.view.own ≡ Some t)
    (avoiding : avoids before.view.mode ≡ true) (holds : before.view.holds ≡ true) (next : next_action before.view ≡ Some (Blocks aim)) (goes : LoadsAlone before now)
    (j : IsJudged list aim before now found) where
  abbrev plan : Plan
  plan = before.view.plan

  is_t : task_of before.view ≡ t
  is_t = ap (λ o. unwrap_or o 0) own

  task : task_of now.view ≡ t
  task = ap (λ o. unwrap_or o 0) goes.same.own ∙ is_t

  pub holds_now : now.view.holds ≡ true
  holds_now = goes.same.holds ∙ holds

  pub avoids_now : avoids now.view.mode ≡ true
  avoids_now = ap avoids goes.same.mode ∙ avoiding

  pub next_now : next_action now.view ≡ Some (Blocks aim)
  next_now = next_stays before now t seat own goes ∙ next

  -- in each state that it may be in
  module _ (a : ℕ → Place) (lock : Option ℕ) (lawful : IsLawful true plan a lock) (has : HasLockWith plan t a lock (seen now.view))
      (far : IsAsFarOn plan (Some t) a (seen now.view)) where
    told : Decides (state_at plan a) t j.event j.supposed
    told = decides list j.supposed aim j.event before j.judges.between now t seat own next j.judges.own j.judges.collected.goes_on j.judges.collected.tells
        (j.judges.collected.finds holds) j.judges.adds a lock
        avoiding lawful has far

    awaits : awaited (Some (Blocks aim)) ((state_at plan a).phases t) ≡ Some j.event
    awaits =
        (stands list j.supposed aim j.event before j.judges.between now t seat own next j.judges.own j.judges.collected.goes_on j.judges.collected.tells
        (j.judges.collected.finds holds) j.judges.adds a lock
        avoiding lawful has far).awaits

    alive_here : (WouldBeDead (state_at plan a) t j.event → ⊥) → LeavesNobodyDead (state_at plan a) t j.event
    alive_here lives = publishing_leaves_nobody_dead (state_at plan a) t j.event (nobody_dead_at plan a lock seat.checked lawful) lives

    in_cycle : (c : Cycle) → IsCycle j.supposed c.tasks c.events → Contains c.tasks (record { 0 = t })
    in_cycle c links =
        stands_in_cycle list j.supposed aim j.event before j.judges.between now t seat own next j.judges.own j.judges.collected.goes_on j.judges.collected.tells
        (j.judges.collected.finds holds) j.judges.adds a lock
        avoiding lawful has far c.tasks c.events links

  each : (Holds : State → Type 0) → InEachWithLock plan t (seen now.view) Holds → InEachByLock now Holds
  each Holds all = subst (λ (q : Plan). InEachWithLock q (task_of now.view) (seen now.view) Holds) (sym goes.same.plan)
      (subst (λ u. InEachWithLock plan u (seen now.view) Holds) (sym task) all)

  -- where no cycle was found the task would be dead in no state
  lives : found ≡ None → InEachWithLock plan t (seen now.view) (λ s. WouldBeDead s t j.event → ⊥)
  lives none a lock lawful has far =
      let all : InEachByLock now (λ s. WouldBeDead s (task_of now.view) j.event → ⊥) =
      subst (λ o. MatchOption o (InEachByLock now (λ s. WouldBeDead s (task_of now.view) j.event → ⊥)) (ExplainsDeath j.supposed (task_of before.view))) none j.told in
      let here : InEachWithLock plan t (seen now.view) (λ s. WouldBeDead s (task_of now.view) j.event → ⊥) =
      subst (λ u. InEachWithLock plan u (seen now.view) (λ s. WouldBeDead s (task_of now.view) j.event → ⊥)) task
      (subst (λ (q : Plan). InEachWithLock q (task_of now.view) (seen now.view) (λ s. WouldBeDead s (task_of now.view) j.event → ⊥)) goes.same.plan all) in
      subst (λ u. WouldBeDead (state_at plan a) u j.event → ⊥) task (here a lock lawful has far)

  -- a publication leaves nobody dead
  pub all_alive : found ≡ None → InEachByLock now (λ s. LeavesNobodyDead s (task_of now.view) j.event)
  all_alive none =
      each (λ s. LeavesNobodyDead s (task_of now.view) j.event)
      (subst (λ u. InEachWithLock plan t (seen now.view) (λ s. LeavesNobodyDead s u j.event)) (sym task)
      (λ a lock lawful has far. alive_here a lock lawful has far (lives none a lock lawful has far)))

  all_avoid : found ≡ None → InEachByLock now (λ s. Avoids s (task_of now.view) (Blocks aim))
  all_avoid none =
      each (λ s. Avoids s (task_of now.view) (Blocks aim))
      (subst (λ u. InEachWithLock plan t (seen now.view) (λ s. Avoids s u (Blocks aim))) (sym task)
      (λ a lock lawful has far. (j.event, awaits a lock lawful has far, alive_here a lock lawful has far (lives none a lock lawful has far))))

  pub may_publish_now : found ≡ None → MayPublish now aim
  may_publish_now none = λ _. (holds_now, all_avoid none)

  -- a refused task would be dead
  pub all_dead : IsDeadBy j.supposed t → InEachByLock now (λ s. WouldBeDead s (task_of now.view) j.event)
  all_dead by =
      each (λ s. WouldBeDead s (task_of now.view) j.event)
      (subst (λ u. InEachWithLock plan t (seen now.view) (λ s. WouldBeDead s u j.event)) (sym task)
      (λ a lock lawful has far. (told a lock lawful has far).refuses by))

  pub may_refuse_now : IsDeadBy j.supposed t → MayRefuse now aim
  may_refuse_now by =
      each (λ s. Avoids s (task_of now.view) (Refuses aim))
      (subst (λ u. InEachWithLock plan t (seen now.view) (λ s. Avoids s u (Refuses aim))) (sym task)
      (λ a lock lawful has far. (j.event, awaits a lock lawful has far, (told a lock lawful has far).refuses by)))

  -- each other task that is dead by the statuses is published
  pub all_published : (u : ℕ) (e : Event) → u ≢ t → IsDeadBy j.supposed u → IsListedOn j.supposed u e → InEachByLock now (λ s. s.published u ≡ Some e)
  all_published u e other by on = each (λ s. s.published u ≡ Some e) (λ a lock lawful has far. (told a lock lawful has far).others u e other by on)

  -- the event that is published is the one that was judged
  event_same : (e : Event) → e.p.0 ≡ aim.phaser → option_map (target aim.off) (own_phase now.view aim.phaser) ≡ Some e.n → e ≡ j.event
  event_same e phaser phase =
      let of_step : awaited (Some (Blocks aim)) (own_phase now.view) ≡ Some e = ap (event_on aim.phaser) phase ∙ ap (λ q. Some (event_at q e.n)) (sym phaser) in
      some_same e j.event (sym of_step ∙ ap (awaited (Some (Blocks aim))) (own_phase_stays before now t seat own goes) ∙ j.judges.own)
    where
      some_same : (u w : Event) → Some u ≡ Some w → u ≡ w
      some_same u w e = cc

  pub publishes_on :
      (e : Event) (stored last : Known) → found ≡ None →
      e.p.0 ≡ aim.phaser → option_map (target aim.off) (own_phase now.view aim.phaser) ≡ Some e.n → IsWithLock now.view.plan (task_of now.view) (seen now.view) →
      MakesStep (Blocks aim) now stored → FreesLock stored last → HasPublished list aim e before last
  publishes_on e stored last none phaser phase possible step freed =
      record {
        supposed = j.supposed;
        store = now;
        judges = subst (λ f. Judges list aim f j.supposed before now) (sym (event_same e phaser phase)) j.judges;
        alive = subst (λ f. InEachByLock now (λ s. LeavesNobodyDead s (task_of now.view) f)) (sym (event_same e phaser phase)) (all_alive none);
        possible = possible;
        stored = stored;
        step = step;
        freed = freed;
      }

  -- where no cycle was found nobody is dead by the statuses
  nobody_dead : found ≡ None → IsWithLock plan t (seen now.view) → (u : ℕ) → IsDeadBy j.supposed u → ⊥
  nobody_dead none is u dead =
      let told_there = told is.places is.lock is.lawful is.with_seat is.far in
      told_there.blocks (λ by. lives none is.places is.lock is.lawful is.with_seat is.far (told_there.refuses by)) u dead

  with_lock_there : IsWithLock now.view.plan (task_of now.view) (seen now.view) → IsWithLock plan t (seen now.view)
  with_lock_there is = subst (λ u. IsWithLock plan u (seen now.view)) task (subst (λ (q : Plan). IsWithLock q (task_of now.view) (seen now.view)) goes.same.plan is)

  -- so an order that has followed them has just their pairs
  pub publishes_by_order :
      (old new : OrderValue) (e : Event) (stored last : Known) → HoldsOrOtherDead j.supposed old new found → found ≡ None →
      e.p.0 ≡ aim.phaser → option_map (target aim.off) (own_phase now.view aim.phaser) ≡ Some e.n → IsWithLock now.view.plan (task_of now.view) (seen now.view) →
      MakesStep (Blocks aim) now stored → FreesLock stored last → HasPublishedByOrder list aim e before last old new
  unfolding publishes_on
  publishes_by_order old new e stored last pairs none phaser phase possible step freed =
      let pairs_held : HoldsPairs j.supposed old new = elim (subst (HoldsOrOtherDead j.supposed old new) none pairs) [
        | inl is ↦ is
        | inr (u, dead) ↦ absurd (nobody_dead none (with_lock_there possible) u dead)
      ] in
      record {
        published = publishes_on e stored last none phaser phase possible step freed;
        holds = pairs_held;
        others = λ a b na nb.
            let same = pairs_of_others list j.supposed aim j.event before now t seat own holds next j.judges a b (λ e. na (e ∙ sym is_t)) (λ e. nb (e ∙ sym is_t)) in
            (λ edge. same.0 ((pairs_held.edges a b).0 edge), λ waits. (pairs_held.edges a b).1 (same.1 waits));
      }

  pub explained : (cycle : Cycle) → found ≡ Some cycle → ExplainsDeath j.supposed t cycle
  explained cycle is =
      subst (λ u. ExplainsDeath j.supposed u cycle) is_t
      (subst (λ o. MatchOption o (InEachByLock now (λ s. WouldBeDead s (task_of now.view) j.event → ⊥)) (ExplainsDeath j.supposed (task_of before.view))) is j.told)

  pub refuses_on :
      (cycle : Cycle) (stored free last : Known) → found ≡ Some cycle → IsWithLock now.view.plan (task_of now.view) (seen now.view) →
      MakesStep (Refuses aim) now stored → FreesLock stored free → DropsBelow (own_phase free.view) (length now.view.plan.makers) free last → HasRefused list aim cycle before last
  refuses_on cycle stored free last is possible step freed drops =
      let why = explained cycle is in
      record {
        event = j.event;
        supposed = j.supposed;
        store = now;
        judges = j.judges;
        knows = record {
          dead = all_dead why.among;
          possible = possible;
          explains = subst (λ u. ExplainsDeath j.supposed u cycle) (sym task) why;
          stands =
              let there = with_lock_there possible in
              subst (λ u. Contains cycle.tasks (record { 0 = u })) (sym task)
              (in_cycle there.places there.lock there.lawful there.with_seat there.far cycle why.links);
          others = λ u e m apart on. all_published u.0 e (λ same. apart (same ∙ sym task)) (cycle_dead j.supposed cycle.tasks cycle.events j.event why.links u m) on;
        };
        leaves = record {
          stored = stored;
          step = step;
          free = free;
          freed = freed;
          drops = subst (λ m. DropsBelow m (length now.view.plan.makers) free last) (free_phases aim now stored free next_now step freed) drops;
        };
      }
