-- The tasks of a list of statuses at their places.
use Rattle.std.proofs.Common.{◌≡◌, ℕ, zero, suc, ◌<◌, Bool, true, false, List, [], ◌∷◌, length, refl, sym, ap, ◌∙◌, subst, inl, inr, arith, get_or}
use Rattle.std.specs.Prelude.{Contains, ◌↔◌, Vec, map}
use Rattle.std.specs.Global.{Global}
use Rattle.std.proofs.lemmas.Bool.{cases_order, cases_lt}
use Rattle.std.proofs.lemmas.List.{get_or_default, get_or-map, get_or_past, length-map}
use Rattle.std.proofs.lemmas.List.Elements.{All-contains}
use Rattle.armus_base.specs.declared.ids.TaskId.{TaskId}
use Rattle.armus_base.specs.declared.status.Status.{Status}
use Rattle.armus_base.specs.calls.Statuses.{IsInOrder}
use Rattle.armus_base.specs.DeadLists.{IsDeadList}
use Rattle.armus_base.proofs.Elements.{nothing_in_nil}
use Rattle.dep_state.specs.calls.Deps.{Deps, IsDepsOf, AreRelations, impeders_of, rows_of}
use Rattle.dep_state.specs.calls.Picks.{Ascend, IsPick}
use Rattle.dep_state.proofs.DeadSets.{IsDead, dead_by_list, dead_in_list}

-- a row of a list of rows
pub row_at :
    {X : Type 0} (rows : List (Vec X Global)) (i : ℕ) (row : Vec X Global) → i < length rows → row ≡ get_or rows i row → get_or (rows_of rows) i [] ≡ row.items
row_at rows i row lt e = get_or-map (λ r. r.items) rows i row [] lt ∙ ap (λ r. r.items) (sym e)

-- only a row of the list has elements
pub row_some : (xs : List (List ℕ)) (e t : ℕ) → Contains (get_or xs e []) t → e < length xs
row_some xs e t h =
    elim (cases_lt e (length xs)) [
      | inl l ↦ l
      | inr m ↦ absurd (nothing_in_nil t (subst (λ r. Contains {X = ℕ} r t) (get_or_past xs e [] m) h))
    ]

-- some element stands at each place
pub element : {X : Type 0} (xs : List X) (k : ℕ) → k < length xs → (x : X) × (get_or xs k x ≡ x)
element [] k lt = absurd (omega arith)
element (x ∷ xs) zero lt = (x, refl)
element (x ∷ xs) (suc k) lt = element xs k (omega arith)

-- each task that impedes an event is one of the tasks
pub impeder_inside : (d : Deps) → AreRelations d → (e t : ℕ) → Contains (impeders_of d e) t → t < length d.tasks
impeder_inside d ok e t c = All-contains (λ x. x < length d.tasks) (impeders_of d e) t (ok.tasks_inside e [] (row_some d.impeders e t c)) c

-- a status stands at a place, with its task
abbrev pub StandsAt : List Status → ℕ → TaskId → Type 0
StandsAt ss k t = (s : Status) × (k < length ss) × (get_or ss k s ≡ s) × (s.t ≡ t)

module _ (ss : List Status) (ok : IsInOrder ss) where
  pub one_task : (k : ℕ) (t u : TaskId) → StandsAt ss k t → StandsAt ss k u → t ≡ u
  one_task k t u (s, lt, e, f) (v, lt', e', f') = sym f ∙ ap (λ x. x.t) (sym e ∙ get_or_default ss k s v lt ∙ e') ∙ f'

  pub one_place : (t : TaskId) (j k : ℕ) → StandsAt ss j t → StandsAt ss k t → j ≡ k
  one_place t j k (s, lt, e, f) (v, lt', e', f') =
      let a : (get_or ss j s).t.0 ≡ t.0 = ap (λ x. x.t.0) e ∙ ap (λ x. x.0) f in
      let b : (get_or ss k v).t.0 ≡ t.0 = ap (λ x. x.t.0) e' ∙ ap (λ x. x.0) f' in
      elim (cases_order j k) [
        | inl same ↦ same
        | inr apart ↦ elim apart [
          | inl l ↦ absurd (omega (arith, ok.tasks j k s v l lt'))
          | inr m ↦ absurd (omega (arith, ok.tasks k j v s m lt))
        ]
      ]

module _ (ss : List Status) (ok : IsInOrder ss) (d : Deps) (is : IsDepsOf ss d) where
  pub count : length d.tasks ≡ length ss
  count = ap length is.tasks ∙ length-map ss (λ s. s.t)

  pub tasks_ascend : Ascend d.tasks
  tasks_ascend j k c below lt =
      let e : d.tasks ≡ map (λ s. s.t) ss = is.tasks in
      let n : length d.tasks ≡ length ss = count in
      let (s, f) = element ss j (omega arith) in
      let (v, h) = element ss k (omega arith) in
      let a : get_or d.tasks j c ≡ s.t = ap (λ ts. get_or ts j c) e ∙ get_or-map (λ x. x.t) ss j s c (omega arith) ∙ ap (λ x. x.t) f in
      let b : get_or d.tasks k c ≡ v.t = ap (λ ts. get_or ts k c) e ∙ get_or-map (λ x. x.t) ss k v c (omega arith) ∙ ap (λ x. x.t) h in
      let a0 : (get_or d.tasks j c).0 ≡ (get_or ss j s).t.0 = ap (λ x. x.0) a ∙ ap (λ x. x.t.0) (sym f) in
      let b0 : (get_or d.tasks k c).0 ≡ (get_or ss k v).t.0 = ap (λ x. x.0) b ∙ ap (λ x. x.t.0) (sym h) in
      omega (arith, ok.tasks j k s v below (omega arith))

  pub task_stands : (k : ℕ) (t : TaskId) → k < length d.tasks → get_or d.tasks k t ≡ t → StandsAt ss k t
  task_stands k t lt at =
      let in' : k < length ss = omega (arith, count) in
      let (s, f) = element ss k in' in
      (s, in', f, ap (λ x. x.t) (sym f) ∙ sym (get_or-map (λ x. x.t) ss k s t in') ∙ sym (ap (λ ts. get_or ts k t) is.tasks) ∙ at)

  pub stands_task : (k : ℕ) (t : TaskId) → StandsAt ss k t → (k < length d.tasks) × (get_or d.tasks k t ≡ t)
  stands_task k t (s, lt, e, f) =
      (omega (arith, count), ap (λ ts. get_or ts k t) is.tasks ∙ get_or-map (λ x. x.t) ss k s t lt ∙ ap (λ x. x.t) e ∙ f)

  -- where the answer at each task's place says whether it is dead, the picked tasks are the dead ones
  pub dead_picked :
      (ats : List Bool) (dead : List TaskId) → ((k : ℕ) (s : Status) → k < length ss → get_or ss k s ≡ s → (get_or ats k false ≡ true) ↔ IsDead ss s.t) →
      IsPick d.tasks ats dead → IsDeadList ss dead
  dead_picked ats dead says picks =
      record {
        ascends = picks.ascends tasks_ascend;
        exact = λ t. (
          λ h.
              let (k, lt, on, at) = (picks.exact t).0 h in
              let (s, in', e, f) = task_stands k t lt at in
              dead_by_list ss t (subst (λ x. IsDead ss x) f ((says k s in' e).0 on)),
          λ by.
              let h : IsDead ss t = dead_in_list ss t by in
              let (set, here, keeps) = h in
              let (s, (k, lt, e), f, rest) = keeps t here in
              let at = stands_task k t (s, lt, e, f) in
              (picks.exact t).1 (k, at.0, (says k s lt e).1 (subst (λ x. IsDead ss x) (sym f) h), at.1),
        );
      }
