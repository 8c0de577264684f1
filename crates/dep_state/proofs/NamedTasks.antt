-- Tasks by the places of a row, and by their names.
use Rattle.std.proofs.Common.{◌≡◌, ℕ, ◌+◌, ◌<◌, List, [], ◌∷◌, ◌++◌, length, sym, ap, ◌∙◌, subst, arith, get_or, take}
use Rattle.std.specs.Prelude.{Contains, Vec, map}
use Rattle.std.specs.Global.{Global}
use Rattle.std.proofs.lemmas.List.{get_or_default, get_or-map, length-map, map-append, take_more}
use Rattle.armus_base.specs.declared.ids.TaskId.{TaskId}
use Rattle.armus_base.specs.declared.event.Event.{Event}
use Rattle.armus_base.specs.declared.status.Status.{Status}
use Rattle.armus_base.specs.calls.Statuses.{IsInOrder}
use Rattle.dep_state.specs.calls.Deps.{Deps, IsDepsOf, impeders_of, rows_of}
use Rattle.dep_state.specs.inside.Names.{named}
use Rattle.dep_state.specs.calls.Picks.{IsImpederList}
use Rattle.dep_state.proofs.DeadSets.{Contains-map, Contains-from_map}
use Rattle.dep_state.proofs.EventPlaces.{EventAt, impeded_at}
use Rattle.dep_state.proofs.TaskPlaces.{impeder_inside, tasks_ascend, task_stands, stands_task}

-- the name at a place
abbrev pub name_at : List TaskId → ℕ → TaskId
name_at tasks k = get_or tasks k (record { 0 = 0 })

-- one more name
pub names_more :
    (tasks : List TaskId) (row : List ℕ) (n : ℕ) (names : List TaskId) → names ≡ named tasks (take n row) → n < length row →
    names ++ name_at tasks (get_or row n 0) ∷ [] ≡ named tasks (take (n + 1) row)
names_more tasks row n names is lt =
    ap (λ xs. xs ++ name_at tasks (get_or row n 0) ∷ []) is ∙ sym (map-append (name_at tasks) (take n row) (get_or row n 0 ∷ [])) ∙ ap (named tasks) (sym (take_more row n 0 lt))

-- one more row of names
pub rows_more :
    (tasks : List TaskId) (rows : List (List ℕ)) (n : ℕ) (all : List (Vec TaskId Global)) (more : Vec TaskId Global) →
    rows_of all ≡ map (named tasks) (take n rows) → n < length rows → more.items ≡ named tasks (get_or rows n []) →
    rows_of (all ++ more ∷ []) ≡ map (named tasks) (take (n + 1) rows)
rows_more tasks rows n all more is lt made =
    map-append (λ v. v.items) all (more ∷ []) ∙ ap (λ xs. xs ++ more.items ∷ []) is ∙ ap (λ x. map (named tasks) (take n rows) ++ x ∷ []) made ∙
    sym (map-append (named tasks) (take n rows) (get_or rows n [] ∷ [])) ∙ ap (map (named tasks)) (sym (take_more rows n [] lt))

module _ (ss : List Status) (ok : IsInOrder ss) (d : Deps) (is : IsDepsOf ss d) (i : ℕ) (e : Event) (at : EventAt d i e) where
  -- the names of the tasks that impede an event
  pub named_impeders : IsImpederList ss e (named d.tasks (impeders_of d i))
  named_impeders =
      record {
        ascends = λ j k u below lt.
            let n : length (named d.tasks (impeders_of d i)) ≡ length (impeders_of d i) = length-map (impeders_of d i) (name_at d.tasks) in
            let a : get_or (named d.tasks (impeders_of d i)) j u ≡ name_at d.tasks (get_or (impeders_of d i) j 0) = get_or-map (name_at d.tasks)
            (impeders_of d i) j 0 u (omega arith) in
            let b : get_or (named d.tasks (impeders_of d i)) k u ≡ name_at d.tasks (get_or (impeders_of d i) k 0) = get_or-map (name_at d.tasks)
            (impeders_of d i) k 0 u (omega arith) in
            let inside = impeder_inside d is.formed i (get_or (impeders_of d i) k 0)
            (k, omega arith, get_or_default (impeders_of d i) k (get_or (impeders_of d i) k 0) 0 (omega arith)) in
            let up = tasks_ascend ss ok d is (get_or (impeders_of d i) j 0) (get_or (impeders_of d i) k 0) (record { 0 = 0 }) (is.ascend i j k 0 below (omega arith)) inside in
            omega (arith, up, ap (λ x. x.0) a, ap (λ x. x.0) b);
        exact = λ t. (
          λ m.
              let (k, in', f) = Contains-from_map (name_at d.tasks) (impeders_of d i) t m in
              let inside = impeder_inside d is.formed i k in' in
              let (s, lt, here, st) = task_stands ss ok d is k t inside (get_or_default d.tasks k t (record { 0 = 0 }) inside ∙ f) in
              (s, (k, lt, here), st, (impeded_at ss ok d is i k e s at lt here).0 in'),
          λ (s, (k, lt, here), st, p).
              let (inside, f) = stands_task ss ok d is k t (s, lt, here, st) in
              let in' = (impeded_at ss ok d is i k e s at lt here).1 p in
              let name : name_at d.tasks k ≡ t = get_or_default d.tasks k (record { 0 = 0 }) t inside ∙ f in
              subst (λ x. Contains (named d.tasks (impeders_of d i)) x) name (Contains-map (name_at d.tasks) (impeders_of d i) k in'),
        );
      }
