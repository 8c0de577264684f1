-- Statuses tell one outcome of a task.
use Rattle.std.proofs.Common.{◌≡◌, ℕ, ◌<◌, ◌≤◌, List, Some, None, length, sym, ap, ◌∙◌, subst, inl, inr, arith, get_or}
use Rattle.std.specs.Prelude.{Contains}
use Rattle.std.proofs.lemmas.Bool.{cases_eq}
use Rattle.std.proofs.lemmas.List.{same_lists}
use Rattle.std.proofs.lemmas.List.Elements.{Contains-get_or}
use Rattle.armus_base.specs.declared.event.Event.{Event}
use Rattle.armus_base.specs.declared.ids.TaskId.{TaskId}
use Rattle.armus_base.specs.declared.status.Status.{Status}
use Rattle.armus_base.specs.DeadLists.{IsDeadList}
use Rattle.armus_base.specs.Deadlocks.{IsDeadBy}
use Rattle.armus_base.specs.Relations.{IsWalkCycle}
use Rattle.armus_base.specs.calls.Statuses.{IsInOrder}
use Rattle.dep_state.proofs.DeadSets.{one_status}
use Rattle.verdict.specs.calls.Cycles.{HaveEvents}
use Rattle.verdict.specs.Cycles.{IsDeadStep}
use Rattle.verdict.specs.declared.found.Cycle.{Cycle}
use Rattle.verdict.proofs.OneCycle.{one_cycle}
use Rattle.avoider.specs.calls.Decisions.{ExplainsDeath, OneOutcome}

-- equal numbers are one task
same_task : (t u : TaskId) → t.0 ≤ u.0 → u.0 ≤ t.0 → t ≡ u
same_task t u a b = let e : t.0 ≡ u.0 = omega arith in let task : ℕ → TaskId = λ n. record { 0 = n } in ap task e

-- the walk goes on in one way
one_step : (list : List Status) (a b c : TaskId) → IsDeadStep list a b → IsDeadStep list a c → b ≡ c
one_step list a b c h k = same_task b c (h.least c k.waits k.dead) (k.least b h.waits h.dead)

-- the first of the dead is the least
first_least :
    (list : List Status) (dead : List TaskId) → IsDeadList list dead → (start : TaskId) → ((d : TaskId) → get_or dead 0 d ≡ start) → (u : TaskId) → IsDeadBy list u.0 →
    start.0 ≤ u.0
first_least list dead are start first u is = by_place ((are.exact u).1 is)
  where
    by_place : Contains dead u → start.0 ≤ u.0
    by_place (k, l, at) = elim (cases_eq k 0) [
      | inl e ↦ (let same : start.0 ≡ u.0 = ap (λ (x : TaskId). x.0) (sym (first u) ∙ ap (λ i. get_or dead i u) (sym e) ∙ at) in omega arith)
      | inr n ↦
          let below = are.ascends 0 k u (omega arith) l in
          let a : (get_or dead 0 u).0 ≡ start.0 = ap (λ (x : TaskId). x.0) (first u) in
          let b : (get_or dead k u).0 ≡ u.0 = ap (λ (x : TaskId). x.0) at in
          omega arith
    ]

first_dead : (list : List Status) (dead : List TaskId) → IsDeadList list dead → (start : TaskId) → ((d : TaskId) → get_or dead 0 d ≡ start) → (u : TaskId) → IsDeadBy list u.0 →
    IsDeadBy list start.0
first_dead list dead are start first u is = by_place ((are.exact u).1 is)
  where
    by_place : Contains dead u → IsDeadBy list start.0
    by_place (k, l, at) = subst (λ (x : TaskId). IsDeadBy list x.0) (first u) ((are.exact (get_or dead 0 u)).0 (Contains-get_or dead 0 u (omega arith)))

-- of a list in order each task has one event
events_same :
    (list : List Status) → IsInOrder list → (tasks : List TaskId) (a b : List Event) → HaveEvents list tasks a → HaveEvents list tasks b → a ≡ b
events_same list order tasks a b h k =
    same_lists a b (h.sized ∙ sym k.sized)
    (λ i d l.
    let task : TaskId = record { 0 = 0 } in
    let within : i < length tasks = (let s = h.sized in omega arith) in
    let (s, inside, of, event) = h.each i task d within in
    let (u, there, of_too, event_too) = k.each i task d within in
    sym event ∙ ap (λ (x : Status). x.event) (one_status list order s u inside there (of ∙ sym of_too)) ∙ event_too)

cycles_same : (a b : Cycle) → a.tasks ≡ b.tasks → a.events ≡ b.events → a ≡ b
cycles_same a b tasks events = λ i. record { tasks = tasks i; events = events i }

one_explanation : (list : List Status) (t : ℕ) (a b : Cycle) → IsInOrder list → ExplainsDeath list t a → ExplainsDeath list t b → a ≡ b
one_explanation list t a b order h k =
    let u : TaskId = record { 0 = t } in
    let s = h.cycle.start in
    let r = k.cycle.start in
    let same : s ≡ r =
    same_task s r (first_least list h.dead h.are_dead s h.cycle.first r (first_dead list k.dead k.are_dead r k.cycle.first u k.among))
    (first_least list k.dead k.are_dead r k.cycle.first s (first_dead list h.dead h.are_dead s h.cycle.first u h.among)) in
    let tasks : a.tasks ≡ b.tasks =
    one_cycle (IsDeadStep list) (one_step list) r a.tasks b.tasks (subst (λ x. IsWalkCycle (IsDeadStep list) x a.tasks) same h.cycle.walk) k.cycle.walk in
    cycles_same a b tasks
    (events_same list order b.tasks a.events b.events (subst (λ (xs : List TaskId). HaveEvents list xs a.events) tasks h.cycle.events) k.cycle.events)

pub one_outcome : OneOutcome
one_outcome list t None None order h k = λ i. None
one_outcome list t None (Some d) order h k = absurd (h k.among)
one_outcome list t (Some c) None order h k = absurd (k h.among)
one_outcome list t (Some c) (Some d) order h k = ap Some (one_explanation list t c d order h k)
