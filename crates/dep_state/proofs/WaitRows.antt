-- The tasks that a task waits for, as a row of names.
use Rattle.std.proofs.Common.{◌≡◌, ℕ, ◌<◌, List, [], length, sym, ap, ◌∙◌, subst, arith, get_or}
use Rattle.std.specs.Prelude.{Contains, All, AllPairs, ◌↔◌}
use Rattle.std.proofs.lemmas.List.{get_or_default, get_or-map, length-map}
use Rattle.std.proofs.lemmas.List.Elements.{All-map}
use Rattle.armus_base.specs.declared.ids.TaskId.{TaskId}
use Rattle.armus_base.specs.declared.status.Status.{Status}
use Rattle.armus_base.specs.Graphs.{WaitsFor}
use Rattle.armus_base.specs.Statuses.{Impedes}
use Rattle.armus_base.specs.calls.Statuses.{IsInOrder}
use Rattle.dep_state.specs.calls.Deps.{Deps, IsDepsOf, AreRelations, impeders_of}
use Rattle.dep_state.specs.inside.Names.{IsNamed, named}
use Rattle.dep_state.specs.calls.Picks.{Ascend}
use Rattle.dep_state.proofs.DeadSets.{one_status}
use Rattle.dep_state.proofs.EventPlaces.{awaited_at}
use Rattle.dep_state.proofs.NamedTasks.{name_at, named_impeders}
use Rattle.dep_state.proofs.TaskPlaces.{StandsAt}

-- names of ascending places ascend
pub named_ascends : (tasks : List TaskId) (row : List ℕ) → Ascend tasks → AllPairs (λ j k. j < k) row → All (λ k. k < length tasks) row → Ascend (named tasks row)
named_ascends tasks row tasks_up row_up inside j k u below lt =
    let n : length (named tasks row) ≡ length row = length-map row (name_at tasks) in
    let a : get_or (named tasks row) j u ≡ name_at tasks (get_or row j 0) = get_or-map (name_at tasks) row j 0 u (omega arith) in
    let b : get_or (named tasks row) k u ≡ name_at tasks (get_or row k 0) = get_or-map (name_at tasks) row k 0 u (omega arith) in
    let up = tasks_up (get_or row j 0) (get_or row k 0) (record { 0 = 0 }) (row_up j k 0 below (omega arith)) (inside k 0 (omega arith)) in
    omega (arith, up, ap (λ x. x.0) a, ap (λ x. x.0) b)

-- so do all rows of names
pub all_named_ascend : (d : Deps) (names : List (List TaskId)) → AreRelations d → ((i : ℕ) → AllPairs (λ j k. j < k) (impeders_of d i)) → Ascend d.tasks →
    IsNamed d.tasks d.impeders names → All Ascend names
all_named_ascend d names ok rows_up up is =
    rw is (All-map Ascend (named d.tasks) d.impeders (λ k row lt.
    rw (get_or_default d.impeders k row [] lt) (named_ascends d.tasks (impeders_of d k) up (rows_up k) (ok.tasks_inside k [] lt))))

-- each of the names is a task's
pub named_inside : (tasks : List TaskId) (row : List ℕ) → All (λ k. k < length tasks) row → All (Contains tasks) (named tasks row)
named_inside tasks row inside k u lt =
    let n : length (named tasks row) ≡ length row = length-map row (name_at tasks) in
    let a : get_or (named tasks row) k u ≡ name_at tasks (get_or row k 0) = get_or-map (name_at tasks) row k 0 u (omega arith) in
    let l = inside k 0 (omega arith) in
    subst (λ x. Contains tasks x) (sym a) (get_or row k 0, l, get_or_default tasks (get_or row k 0) (name_at tasks (get_or row k 0)) (record { 0 = 0 }) l)

module _ (ss : List Status) (ok : IsInOrder ss) (d : Deps) (is : IsDepsOf ss d) (k : ℕ) (t : TaskId) (at : StandsAt ss k t) where
  -- the row of the event that the task at a place awaits has just the tasks that it waits for
  pub row_is_waits : (b : TaskId) → Contains (named d.tasks (impeders_of d (get_or d.awaits k 0))) b ↔ WaitsFor ss t b
  row_is_waits b =
      let (s, lt, here, st) = at in
      let e = awaited_at ss ok d is k s lt here in
      let row = named_impeders ss ok d is (get_or d.awaits k 0) s.event e in (
        λ m. let (u, i, ut, p) = (row.exact b).0 m in (s, (k, lt, here), st, (u, i, ut, p)),
        λ (v, i, vt, (u, j, ut, p)).
            let same : v ≡ s = one_status ss ok v s i (k, lt, here) (vt ∙ sym st) in
            (row.exact b).1 (u, j, ut, subst (λ x. Impedes u x.event) same p),
      )
