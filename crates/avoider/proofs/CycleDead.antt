-- The tasks of a cycle are a deadlocked set, and each of them is dead by the statuses.
use Rattle.std.proofs.Common.{◌≡◌, ℕ, ◌+◌, ◌<◌, List, length, get_or, arith, inl, inr, refl, sym, ◌∙◌, subst}
use Rattle.std.specs.Prelude.{Contains}
use Rattle.std.proofs.lemmas.Bool.{cases_eq}
use Rattle.std.proofs.lemmas.List.{get_or_default}
use Rattle.armus_base.specs.declared.event.Event.{Event}
use Rattle.armus_base.specs.declared.ids.TaskId.{TaskId}
use Rattle.armus_base.specs.declared.status.Status.{Status}
use Rattle.armus_base.specs.Deadlocks.{IsDeadBy}
use Rattle.armus_base.specs.Statuses.{Impedes}
use Rattle.dep_state.proofs.DeadSets.{IsDeadlockedList, dead_by_list}
use Rattle.verdict.specs.calls.Cycles.{IsCycle, IsNextPlace}

-- among n there is a place after each
next_place_of : (n k : ℕ) → k < n → (j : ℕ) × (j < n) × IsNextPlace n k j
next_place_of n k l =
    elim (cases_eq (k + 1) n) [
      | inl last ↦ (0, omega arith, inl (last, refl))
      | inr more ↦ (k + 1, omega arith, inr (omega arith, refl))
    ]

-- also by other statuses that have those of the cycle's tasks
pub cycle_deadlocked :
    (list others : List Status) (tasks : List TaskId) (events : List Event) (e : Event) → IsCycle list tasks events →
    ((s : Status) (u : TaskId) → Contains list s → s.t ≡ u → Contains tasks u → Contains others s) → IsDeadlockedList others tasks
cycle_deadlocked list others tasks events e cycle there u m =
    let link = cycle.each m.0 m.1 in
    let waits = link.awaits u e in
    let next = next_place_of (length tasks) m.0 m.1 in
    let by = link.impeded next.0 u e next.2 in
    let behind : Contains tasks (get_or tasks next.0 u) = (next.0, next.1, get_or_default tasks next.0 (get_or tasks next.0 u) u next.1) in (
      waits.1,
      there waits.1 u (waits.0, waits.2, waits.3) (waits.4.0 ∙ m.2) m,
      waits.4.0 ∙ m.2,
      (
        by.1,
        there by.1 (get_or tasks next.0 u) (by.0, by.2, by.3) by.4.0 behind,
        subst (λ v. Contains tasks v) (sym by.4.0) behind,
        subst (λ v. Impedes by.1 v) (sym waits.4.1) by.4.1,
      ),
    )

pub cycle_dead : (list : List Status) (tasks : List TaskId) (events : List Event) (e : Event) → IsCycle list tasks events → (u : TaskId) → Contains tasks u → IsDeadBy list u.0
cycle_dead list tasks events e cycle u m = dead_by_list list u (tasks, m, cycle_deadlocked list list tasks events e cycle (λ s v inside same among. inside))
