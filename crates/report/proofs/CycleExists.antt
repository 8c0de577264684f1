-- A walk along finitely many nodes comes back, and so there is a cycle where a task is dead.
use Rattle.std.proofs.Common.{◌≡◌, ℕ, zero, suc, ◌+◌, ◌<◌, ◌≤◌, List, [], ◌∷◌, ◌++◌, length, refl, ap, ◌∙◌, subst, inl, inr, arith, length-append, drop}
use Rattle.std.specs.Prelude.{Contains, map}
use Rattle.std.proofs.lemmas.List.{get_or_default}
use Rattle.std.proofs.lemmas.List.Elements.{Contains-push_cases}
use Rattle.armus_base.specs.declared.event.Event.{Event}
use Rattle.armus_base.specs.declared.ids.PhaserId.{PhaserId}
use Rattle.armus_base.specs.declared.ids.TaskId.{TaskId}
use Rattle.armus_base.specs.declared.status.Status.{Status}
use Rattle.armus_base.specs.Deadlocks.{IsDeadBy}
use Rattle.armus_base.specs.Graphs.{WaitsFor}
use Rattle.armus_base.specs.Relations.{IsWalkCycle}
use Rattle.armus_base.specs.Statuses.{Impedes}
use Rattle.armus_base.proofs.Counts.{distinct_le, IsDistinct-push}
use Rattle.armus_base.proofs.WalkCycles.{IsWalkTo, walk_more, walk_done}
use Rattle.dep_state.proofs.DeadSets.{Contains-map, dead_by_list, dead_in_list, same_task}
use Rattle.verdict.specs.Cycles.{IsDeadStep}
use Rattle.report.specs.Lines.{cycle_line}
use Rattle.report.specs.Reports.{IsCycleText, IsLeastDead}
use Rattle.adaptive.proofs.Deciding.{Told, told_both, told_in, told_less, told_number, told_same, told_some, told_some_both, least_or_none}
use Rattle.adaptive.proofs.DeadOrNot.{dead_or_not}

-- nodes of a list, each of which leads to another
module _ {X : Type 0} (R : X → X → Type 0) (same : (a b : X) → Told (a ≡ b)) (start : X) (set : List X) (P : X → Type 0)
    (inside : (x : X) → P x → Contains set x) (on : (x : X) → P x → (y : X) × R x y × P y) where
  -- the walk so far: its nodes stand in the list
  record Walked (path : List X) (node : X) : Type 0 where
    walk : IsWalkTo R start path node
    all : (x : X) → Contains path x → Contains set x
    node_is : P node

  module _ (path : List X) (node : X) (h : Walked path node) where
    -- it has come back to a node
    back_at : Contains path node → (cycle : List X) × IsWalkCycle R start cycle
    back_at (k, lt, e) = (drop k path, walk_done R start path node h.walk k lt (λ d. get_or_default path k d node lt ∙ e))

    module _ (new : Contains path node → ⊥) where
      all_more : (x : X) → Contains (path ++ node ∷ []) x → Contains set x
      all_more x m =
          elim (Contains-push_cases path node x m) [ inl l ↦ h.all x l | inr e ↦ subst (λ z. Contains set z) e (inside node h.node_is) ]

      shorter : length path < length set
      shorter =
          let le = distinct_le (path ++ node ∷ []) set (IsDistinct-push path node h.walk.distinct new) all_more in
          omega (arith, le, length-append path (node ∷ []))

      walk_on : (next : X) → R node next → P next → Walked (path ++ node ∷ []) next
      walk_on next step next_is =
          record { walk = walk_more R start path node h.walk next new step; all = all_more; node_is = next_is }

  comes_back : (fuel : ℕ) (path : List X) (node : X) → Walked path node → length set ≤ length path + fuel → (cycle : List X) × IsWalkCycle R start cycle
  comes_back zero path node h few =
      elim (told_in same path node) [
        | inl there ↦ back_at path node h there
        | inr new ↦ absurd (let lt = shorter path node h new in omega arith)
      ]
  comes_back (suc fuel) path node h few =
      elim (told_in same path node) [
        | inl there ↦ back_at path node h there
        | inr new ↦
            let (next, step, next_is) = on node h.node_is in
            comes_back fuel (path ++ node ∷ []) next (walk_on path node h new next step next_is) (omega (arith, length-append path (node ∷ [])))
      ]

  pub walk_back : P start → (cycle : List X) × IsWalkCycle R start cycle
  walk_back start_is =
      comes_back (length set) [] start
      (record {
        walk = record {
          starts = λ d lt. absurd (omega arith);
          none = λ e. refl;
          steps = λ k d lt. absurd (omega arith);
          next = λ d lt. absurd (omega arith);
          distinct = tt;
        };
        all = λ x (k, lt, e). absurd (omega arith);
        node_is = start_is;
      })
      (omega arith)

pub told_task : (a b : TaskId) → Told (a ≡ b)
told_task a b = told_same (same_task a b) (λ e. ap (λ x. x.0) e) (told_number a.0 b.0)

phaser_of : ℕ → PhaserId
phaser_of p = record { 0 = p }

pub same_phaser : (a b : PhaserId) → a.0 ≡ b.0 → a ≡ b
unfolding phaser_of
same_phaser a b e = ap phaser_of e

pub told_phaser : (a b : PhaserId) → Told (a ≡ b)
told_phaser a b = told_same (same_phaser a b) (λ e. ap (λ x. x.0) e) (told_number a.0 b.0)

-- a task impedes an event, or it does not
pub told_impedes : (s : Status) (e : Event) → Told (Impedes s e)
told_impedes s e =
    told_same (λ (m, (k, lt, at), p). (k, m, lt, at, p)) (λ (k, m, lt, at, p). (m, (k, lt, at), p))
    (told_some (λ m. (m.p ≡ e.p) × (m.n < e.n)) (λ m. told_both (told_phaser m.p e.p) (told_less m.n e.n)) s.phases)

module _ (ss : List Status) where
  -- the tasks of the statuses
  pub tasks : List TaskId
  tasks = map (λ s. s.t) ss

  pub in_tasks : (s : Status) (t : TaskId) → Contains ss s → s.t ≡ t → Contains tasks t
  unfolding tasks
  in_tasks s t i e = subst (λ x. Contains (map (λ v. v.t) ss) x) e (Contains-map (λ v. v.t) ss s i)

  pub told_waits : (t u : TaskId) → Told (WaitsFor ss t u)
  told_waits t u =
      told_some_both (λ s. s.t ≡ t) (λ s. (v : Status) × Contains ss v × (v.t ≡ u) × Impedes v s.event) (λ s. told_task s.t t)
      (λ s. told_some_both (λ v. v.t ≡ u) (λ v. Impedes v s.event) (λ v. told_task v.t u) (λ v. told_impedes v s.event) ss) ss

  abbrev dead_next : TaskId → TaskId → Type 0
  dead_next t u = WaitsFor ss t u × IsDeadBy ss u.0

  -- a dead task waits for a dead one
  goes_on : (t : TaskId) → IsDeadBy ss t.0 → (u : TaskId) × dead_next t u
  goes_on t d =
      let (set, here, keeps) = dead_in_list ss t d in
      let (s, i, st, (u, j, k, p)) = keeps t here in
      (u.t, ((s, i, st, (u, j, refl, p)), dead_by_list ss u.t (set, k, keeps)))

  waiting_inside : (t u : TaskId) → WaitsFor ss t u → Contains tasks u
  waiting_inside t u (s, i, st, (v, j, vt, p)) = in_tasks v u j vt

  -- and so for a least one
  step_from : (t : TaskId) → IsDeadBy ss t.0 → (u : TaskId) × IsDeadStep ss t u × IsDeadBy ss u.0
  step_from t d =
      let (v, w) = goes_on t d in
      elim (least_or_none (λ u. u.0) (dead_next t) (λ u. told_both (told_waits t u) (dead_or_not ss u.0)) tasks) [
        | inl one ↦
            let (u, h) = one in
            (u, record { waits = h.holds.0; dead = h.holds.1; least = λ x w' d'. h.least x (waiting_inside t x w') (w', d') }, h.holds.1)
        | inr none ↦ absurd (none v (waiting_inside t v w.0) w)
      ]

  task_of : ℕ → TaskId
  task_of n = record { 0 = n }

  dead_inside : (t : TaskId) → IsDeadBy ss t.0 → Contains tasks t
  dead_inside t d =
      let (set, here, keeps) = dead_in_list ss t d in
      let (s, i, st, rest) = keeps t here in
      in_tasks s t i st

  -- the line of the cycle
  pub cycle_exists : (text : List ℕ) × IsCycleText ss text
  unfolding task_of
  cycle_exists =
      elim (least_or_none (λ u. u.0) (λ u. IsDeadBy ss u.0) (λ u. dead_or_not ss u.0) tasks) [
        | inl one ↦
            let (start, h) = one in
            let first : IsLeastDead ss start = record { dead = h.holds; least = λ u d. h.least (task_of u) (dead_inside (task_of u) d) d } in
            let (cycle, walk) = walk_back (IsDeadStep ss) told_task start tasks (λ t. IsDeadBy ss t.0) dead_inside step_from h.holds in
            (cycle_line cycle, inr (cycle, (start, first, walk), refl))
        | inr none ↦ ([], inl (λ (t, d). none (task_of t) (dead_inside (task_of t) d) d, refl))
      ]
