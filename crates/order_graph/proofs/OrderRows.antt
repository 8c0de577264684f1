-- One row of an order's successors is replaced.
use Rattle.std.proofs.Common.{◌≡◌, ℕ, ◌<◌, List, [], length, refl, sym, ap, ◌∙◌, subst, ◌⊎◌, inl, inr, arith, get_or, set, length-set, get_or-set_same, get_or-set_other}
use Rattle.std.specs.Prelude.{Contains, ◌↔◌, All, OnErr, Result, Ok, Err}
use Rattle.std.proofs.lemmas.Bool.{cases_eq}
use Rattle.std.proofs.lemmas.List.{get_or_default, set-get_or}
use Rattle.std.proofs.lemmas.List.Elements.{All-set, Contains-get_or}
use Rattle.armus_base.specs.declared.ids.TaskId.{TaskId}
use Rattle.dep_state.specs.calls.Picks.{Ascend}
use Rattle.dep_state.proofs.DeadSets.{same_task}
use Rattle.order_graph.specs.calls.Adding.{HasEdgeMore, HasNoEdge}
use Rattle.order_graph.specs.calls.Orders.{OrderValue, IsEdge, IsOrder, IsTaskOf, position_of, successors_of}
use Rattle.order_graph.specs.inside.Rows.{KeepsOnly, order_of}
use Rattle.order_graph.proofs.Climbing.{climbs, to_task}

-- the order with this row of successors of a
abbrev pub with_row : OrderValue → TaskId → List TaskId → OrderValue
with_row o a row = record { edges = set o.edges a.0 row; positions = o.positions }

module _ (o : OrderValue) (ok : IsOrder o) (a : TaskId) (task : IsTaskOf o a) (row : List TaskId) where
  row_here : a.0 < length o.edges
  row_here = omega (arith, ok.sized)

  -- an edge is one of the row, or one from another task
  row_edges : (x y : TaskId) → IsEdge (with_row o a row) x y ↔ (((x ≡ a) × Contains row y) ⊎ ((x ≡ a → ⊥) × IsEdge o x y))
  row_edges x y =
      elim (cases_eq x.0 a.0) [
        | inl e ↦
            let same : x ≡ a = same_task x a e in
            let at : get_or (set o.edges a.0 row) x.0 [] ≡ row = ap (λ k. get_or (set o.edges a.0 row) k []) e ∙ get_or-set_same o.edges a.0 row [] row_here in (
              λ h. inl (same, subst (λ r. Contains {X = TaskId} r y) at h),
              λ h. elim h [ inl l ↦ subst (λ r. Contains {X = TaskId} r y) (sym at) l.1 | inr r ↦ absurd (r.0 same) ],
            )
        | inr ne ↦
            let at : get_or (set o.edges a.0 row) x.0 [] ≡ get_or o.edges x.0 [] = get_or-set_other o.edges a.0 x.0 row [] ne in (
              λ h. inr (λ e. ne (ap (λ t. t.0) e), subst (λ r. Contains {X = TaskId} r y) at h),
              λ h. elim h [ inl l ↦ absurd (ne (ap (λ t. t.0) l.0)) | inr r ↦ subst (λ r. Contains {X = TaskId} r y) (sym at) r.1 ],
            )
      ]

  -- a row of tasks further on keeps the order
  pub row_order : Ascend row → ((y : TaskId) → Contains row y → IsTaskOf o y × (position_of o a < position_of o y)) → IsOrder (with_row o a row)
  row_order up on =
      record {
        sized = length-set o.edges a.0 row ∙ ok.sized;
        few = ok.few;
        ascend = All-set Ascend o.edges a.0 row up ok.ascend;
        are_tasks = All-set (All (IsTaskOf o)) o.edges a.0 row (λ k d lt. (on (get_or row k d) (Contains-get_or row k d lt)).0) ok.are_tasks;
        inside = ok.inside;
        distinct = ok.distinct;
        forward = λ x y h. elim ((row_edges x y).0 h) [
          | inl l ↦ subst (λ t. position_of o t < position_of o y) (sym l.0) (on y l.1).1
          | inr r ↦ ok.forward x y r.1
        ];
      }

  -- one more successor
  pub row_more :
      (b : TaskId) → ((u : TaskId) → Contains row u ↔ (Contains (successors_of o a) u ⊎ (u ≡ b))) →
      (x y : TaskId) → IsEdge (with_row o a row) x y ↔ (IsEdge o x y ⊎ ((x ≡ a) × (y ≡ b)))
  row_more b more x y = (
    λ h. elim ((row_edges x y).0 h) [
      | inl l ↦ elim ((more y).0 l.1) [ inl m ↦ inl (subst (λ t. IsEdge o t y) (sym l.0) m) | inr e ↦ inr (l.0, e) ]
      | inr r ↦ inl r.1
    ],
    λ h. (row_edges x y).1 (elim h [
      | inl m ↦ elim (cases_eq x.0 a.0) [
        | inl e ↦ let same : x ≡ a = same_task x a e in inl (same, (more y).1 (inl (subst (λ t. IsEdge o t y) same m)))
        | inr ne ↦ inr (λ e. ne (ap (λ t. t.0) e), m)
      ]
      | inr e ↦ inl (e.0, (more y).1 (inr e.1))
    ]),
  )

  -- only some of the successors
  pub row_fewer :
      (Left : TaskId → Type 0) → ((u : TaskId) → Contains row u ↔ (Contains (successors_of o a) u × Left u)) →
      (x y : TaskId) → IsEdge (with_row o a row) x y ↔ (IsEdge o x y × (x ≡ a → Left y))
  row_fewer Left fewer x y = (
    λ h. elim ((row_edges x y).0 h) [
      | inl l ↦ let m = (fewer y).0 l.1 in (subst (λ t. IsEdge o t y) (sym l.0) m.0, λ _. m.1)
      | inr r ↦ (r.1, λ e. absurd (r.0 e))
    ],
    λ (m, on). (row_edges x y).1 (elim (cases_eq x.0 a.0) [
      | inl e ↦ let same : x ≡ a = same_task x a e in inl (same, (fewer y).1 (subst (λ t. IsEdge o t y) same m, on same))
      | inr ne ↦ inr (λ e. ne (ap (λ t. t.0) e), m)
    ]),
  )

  -- an edge that goes up is added
  module _ (b : TaskId) (up : position_of o a < position_of o b) where
    pub put_order : Ascend row → IsTaskOf o b → ((u : TaskId) → Contains row u → Contains (successors_of o a) u ⊎ (u ≡ b)) → IsOrder (with_row o a row)
    put_order ascends to within =
        row_order ascends (λ y m. elim (within y m) [
          | inl h ↦ (to_task o ok a y h, ok.forward a y h)
          | inr e ↦ subst (λ t. IsTaskOf o t × (position_of o a < position_of o t)) (sym e) (to, up)
        ])

    pub put_edge : ((u : TaskId) → Contains row u ↔ (Contains (successors_of o a) u ⊎ (u ≡ b))) → HasEdgeMore a b o (with_row o a row)
    put_edge more = record { tasks = refl; edges = row_more b more; moved = λ t l out. refl; no_walk = λ n w. omega (arith, climbs o ok n b a w) }

  -- edges are taken away
  pub fewer_order : Ascend row → ((u : TaskId) → Contains row u → Contains (successors_of o a) u) → IsOrder (with_row o a row)
  fewer_order ascends fewer = row_order ascends (λ y m. (to_task o ok a y (fewer y m), ok.forward a y (fewer y m)))

  pub clear_edge : (b : TaskId) → ((u : TaskId) → Contains row u ↔ (Contains (successors_of o a) u × (u ≡ b → ⊥))) → HasNoEdge a b o (with_row o a row)
  clear_edge b fewer =
      record {
        positions = refl;
        edges = λ x y. let r = row_fewer (λ u. u ≡ b → ⊥) fewer x y in (
          λ h. let (m, on) = r.0 h in (m, λ (e, f). on e f),
          λ (m, on). r.1 (m, λ e f. on (e, f)),
        );
      }

  pub keep_edges : (wanted : List TaskId) → ((u : TaskId) → Contains row u ↔ (Contains (successors_of o a) u × Contains wanted u)) → KeepsOnly a wanted o (with_row o a row)
  keep_edges wanted fewer = record { positions = refl; edges = row_fewer (Contains wanted) fewer }

-- the same of an order in memory
module _ (rows : List (List TaskId)) (positions : List ℕ) (a : TaskId) (old : List TaskId) (ok : IsOrder (order_of rows positions))
    (task : IsTaskOf (order_of rows positions) a) (was : old ≡ get_or rows a.0 old) where
  in_rows : a.0 < length rows
  in_rows = omega (arith, task, ok.sized)

  pub is_row : successors_of (order_of rows positions) a ≡ old
  is_row = get_or_default rows a.0 [] old in_rows ∙ sym was

  module _ (new : List TaskId) where
    pub memory_same : new ≡ old → order_of (set rows a.0 new) positions ≡ order_of rows positions
    memory_same e =
        ap (λ (s : List (List TaskId)). let o : OrderValue = record { edges = s; positions = positions } in o) (
        ap (set rows a.0) (e ∙ sym is_row) ∙ set-get_or rows a.0 [])

    module _ (b : TaskId) where
      pub memory_put_order :
          get_or positions a.0 0 < get_or positions b.0 0 → IsTaskOf (order_of rows positions) b → Ascend new →
          ((u : TaskId) → Contains new u → Contains old u ⊎ (u ≡ b)) → IsOrder (order_of (set rows a.0 new) positions)
      memory_put_order up to ascends within = put_order (order_of rows positions) ok a task new b up ascends to (λ u. rw is_row (within u))

      pub memory_put_edge :
          get_or positions a.0 0 < get_or positions b.0 0 → ((u : TaskId) → Contains new u ↔ (Contains old u ⊎ (u ≡ b))) →
          HasEdgeMore a b (order_of rows positions) (order_of (set rows a.0 new) positions)
      memory_put_edge up more = put_edge (order_of rows positions) ok a task new b up (λ u. rw is_row (more u))

      pub memory_clear :
          ((u : TaskId) → Contains new u ↔ (Contains old u × (u ≡ b → ⊥))) → HasNoEdge a b (order_of rows positions) (order_of (set rows a.0 new) positions)
      memory_clear fewer = clear_edge (order_of rows positions) ok a task new b (λ u. rw is_row (fewer u))

    pub memory_fewer_order : Ascend new → ((u : TaskId) → Contains new u → Contains old u) → IsOrder (order_of (set rows a.0 new) positions)
    memory_fewer_order ascends fewer = fewer_order (order_of rows positions) ok a task new ascends (λ u. rw is_row (fewer u))

    pub memory_keep :
        (wanted : List TaskId) → ((u : TaskId) → Contains new u ↔ (Contains old u × Contains wanted u)) →
        KeepsOnly a wanted (order_of rows positions) (order_of (set rows a.0 new) positions)
    memory_keep wanted fewer = keep_edges (order_of rows positions) ok a task new wanted (λ u. rw is_row (fewer u))

-- what holds whatever a call answers holds where it is an Err
pub on_err_holds : {T E P : Type 0} (r : Result T E) → P → OnErr r P
on_err_holds (Ok x) p = tt
on_err_holds (Err e) p = p
