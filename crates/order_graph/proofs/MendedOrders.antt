-- An order whose stretch is put into another order, in which a new edge goes up, is an order.
use Rattle.std.proofs.Common.{◌≡◌, ℕ, ◌+◌, ◌-◌, ◌<◌, ◌≤◌, List, length, sym, ap, ◌∙◌, subst, ◌⊎◌, inl, inr, arith, get_or, set, length-set}
use Rattle.std.specs.Prelude.{Contains, All, ◌↔◌, slice_index}
use Rattle.std.proofs.lemmas.Bool.{cases_lt, cases_order}
use Rattle.std.proofs.lemmas.List.{get_or_default}
use Rattle.std.proofs.lemmas.List.Elements.{All-set, Contains-get_or}
use Rattle.armus_base.specs.declared.ids.TaskId.{TaskId}
use Rattle.dep_state.specs.calls.Picks.{Ascend}
use Rattle.order_graph.specs.calls.Adding.{HasEdgeMore}
use Rattle.order_graph.specs.calls.Orders.{OrderValue, IsEdge, IsOrder, IsTaskOf, position_of, successors_of}
use Rattle.order_graph.specs.inside.Distances.{NeverReaches}
use Rattle.order_graph.specs.inside.Mending.{IsBetween, IsMended}
use Rattle.order_graph.specs.inside.Rows.{AreInverse, AreSettled}
use Rattle.order_graph.proofs.Climbing.{from_task, to_task}
use Rattle.order_graph.proofs.OrderRows.{row_more}

module _ (o : OrderValue) (ok : IsOrder o) (at : List TaskId) (inverse : AreInverse o.positions at) (a b : TaskId) (from : IsTaskOf o a) (to : IsTaskOf o b)
    (down : position_of o b ≤ position_of o a) (none : NeverReaches o a b) (ts : List TaskId) (mended : IsMended o a b ts) (positions : List ℕ)
    (after : List TaskId) (settled : AreSettled (position_of o b) ts o.positions positions at after) where
  -- the new position of a task
  now : TaskId → ℕ
  now t = slice_index positions t.0

  Moved : TaskId → Type 0
  Moved t = (k : ℕ) × (k < length ts) × (get_or ts k t ≡ t) × (now t ≡ position_of o b + k)

  record Stays (t : TaskId) : Type 0 where
    out : IsBetween o b a t → ⊥
    same : now t ≡ position_of o t

  -- each task has moved within the stretch or stays
  where_now : (t : TaskId) → IsTaskOf o t → Moved t ⊎ Stays t
  unfolding now Moved
  where_now t task =
      let stays : (IsBetween o b a t → ⊥) → Stays t = λ out. record { out = out; same = settled.positions_there t (λ m. out ((mended.exact t).0 m)) } in
      elim (cases_lt (position_of o t) (position_of o b)) [
        | inl low ↦ inr (stays (λ (x, y, z). omega arith))
        | inr above ↦ elim (cases_lt (position_of o a) (position_of o t)) [
          | inl high ↦ inr (stays (λ (x, y, z). omega arith))
          | inr below ↦
              let (k, lt, e) = (mended.exact t).1 (task, above, below) in
              inl (k, lt, e, ap (λ (u : TaskId). slice_index positions u.0) (sym e) ∙ settled.positions_here k t lt)
        ]
      ]

  -- a task that stays is ahead of the stretch or behind it
  beside : (t : TaskId) → IsTaskOf o t → Stays t → (now t < position_of o b) ⊎ (position_of o a < now t)
  beside t task s =
      elim (cases_lt (position_of o t) (position_of o b)) [
        | inl low ↦ inl (omega (arith, s.same))
        | inr above ↦ elim (cases_lt (position_of o a) (position_of o t)) [ inl high ↦ inr (omega (arith, s.same)) | inr below ↦ absurd (s.out (task, above, below)) ]
      ]

  now_inside : (t : TaskId) → IsTaskOf o t → now t < length o.positions
  unfolding Moved
  now_inside t task =
      let high = ok.inside a from in
      elim (where_now t task) [ inl m ↦ let (k, lt, e, p) = m in omega (arith, mended.sized) | inr s ↦ omega (arith, s.same, ok.inside t task) ]

  now_distinct : (t u : TaskId) → IsTaskOf o t → IsTaskOf o u → now t ≡ now u → t ≡ u
  unfolding Moved
  now_distinct t u task task' same =
      elim (where_now t task) [
        | inl m ↦ let (k, lt, e, p) = m in
            elim (where_now u task') [
              | inl n ↦
                  let (j, lt', f, q) = n in
                  let kj : k ≡ j = omega arith in
                  sym e ∙ ap (λ i. get_or ts i t) kj ∙ get_or_default ts j t u lt' ∙ f
              | inr s ↦ elim (beside u task' s) [ inl low ↦ absurd (omega arith) | inr high ↦ absurd (omega (arith, mended.sized)) ]
            ]
        | inr s ↦ elim (where_now u task') [
          | inl n ↦ let (j, lt', f, q) = n in elim (beside t task s) [ inl low ↦ absurd (omega arith) | inr high ↦ absurd (omega (arith, mended.sized)) ]
          | inr r ↦ ok.distinct t u task task' (sym s.same ∙ same ∙ r.same)
        ]
      ]

  -- an edge that was there, or the new one
  Goes : TaskId → TaskId → Type 0
  Goes x y = IsEdge o x y ⊎ ((x ≡ a) × (y ≡ b))

  two_ends : (x y : TaskId) → Goes x y → x ≡ y → ⊥
  unfolding Goes
  two_ends x y (inl h) e = omega (arith, ok.forward x y h, ap (position_of o) e)
  two_ends x y (inr n) e = none 0 (sym n.1 ∙ sym e ∙ n.0)

  -- where an end stays, the edge was there before or the end is none of the new one's
  old_up : (x y : TaskId) → Goes x y → (Stays x) ⊎ (Stays y) → position_of o x < position_of o y
  unfolding Goes
  old_up x y (inl h) s = ok.forward x y h
  old_up x y (inr n) (inl s) = absurd (s.out (subst (λ t. IsBetween o b a t) (sym n.0) (from, down, omega arith)))
  old_up x y (inr n) (inr s) = absurd (s.out (subst (λ t. IsBetween o b a t) (sym n.1) (to, omega arith, down)))

  not_back : (x y : TaskId) (k j : ℕ) → Goes x y → k < length ts → j < length ts → get_or ts k x ≡ x → get_or ts j y ≡ y → j < k → ⊥
  unfolding Goes
  not_back x y k j goes lt lt' e f jk =
      let p = mended.precede j k x jk lt in
      let g : get_or ts j x ≡ y = get_or_default ts j x y lt' ∙ f in
      elim goes [
        | inl h ↦ p.no_edge (subst (λ u. IsEdge o (get_or ts k x) u) (sym g) (subst (λ u. IsEdge o u y) (sym e) h))
        | inr n ↦ p.not_new (e ∙ n.0, g ∙ n.1)
      ]

  now_up : (x y : TaskId) → IsTaskOf o x → IsTaskOf o y → Goes x y → now x < now y
  unfolding Moved
  now_up x y task task' goes =
      elim (where_now x task) [
        | inl m ↦ let (k, lt, e, p) = m in
            elim (where_now y task') [
              | inl n ↦ let (j, lt', f, q) = n in
                  elim (cases_order k j) [
                    | inl same ↦ absurd (two_ends x y goes (sym e ∙ ap (λ i. get_or ts i x) same ∙ get_or_default ts j x y lt' ∙ f))
                    | inr apart ↦ elim apart [ inl l ↦ omega arith | inr g ↦ absurd (not_back x y k j goes lt lt' e f g) ]
                  ]
              | inr s ↦
                  let up = old_up x y goes (inr s) in
                  let low = ((mended.exact x).0 (k, lt, e)).1 in
                  elim (beside y task' s) [ inl l ↦ absurd (omega (arith, s.same)) | inr h ↦ omega (arith, mended.sized) ]
            ]
        | inr r ↦
            let up = old_up x y goes (inl r) in
            elim (where_now y task') [
              | inl n ↦
                  let (j, lt', f, q) = n in
                  let high = ((mended.exact y).0 (j, lt', f)).2 in
                  elim (beside x task r) [ inl l ↦ omega arith | inr h ↦ absurd (omega (arith, r.same)) ]
              | inr s ↦ omega (arith, r.same, s.same)
            ]
      ]

  -- the task at each position
  pub inverse_now : AreInverse positions after
  unfolding now Moved
  inverse_now =
      record {
        sized = settled.at_sized ∙ inverse.sized ∙ sym settled.sized;
        task_at = λ t d lt.
            let task : IsTaskOf o t = omega (arith, settled.sized) in
            elim (where_now t task) [
              | inl m ↦
                  let (k, l, e, p) = m in
                  ap (λ i. get_or after i d) p ∙ settled.at_here k d l ∙ get_or_default ts k d t l ∙ e
              | inr s ↦
                  let out : (now t < position_of o b) ⊎ (position_of o b + length ts ≤ now t) =
                  elim (beside t task s) [ inl low ↦ inl low | inr high ↦ inr (omega (arith, mended.sized)) ] in
                  settled.at_there (now t) d out ∙ ap (λ i. get_or at i d) s.same ∙ inverse.task_at t d task
            ];
        position_at = λ k d lt.
            elim (in_or_out k d) [
              | inl out ↦ beside_at k d lt out
              | inr within ↦ let (j, l, e, f) = within in ap (λ (u : TaskId). slice_index positions u.0) f ∙ settled.positions_here j d l ∙ e
            ];
        inside = λ k d lt.
            elim (in_or_out k d) [
              | inl out ↦ task_beside k d lt out
              | inr within ↦
                  let (j, l, e, f) = within in
                  let m = ((mended.exact (get_or ts j d)).0 (Contains-get_or ts j d l)).0 in
                  omega (arith, ap (λ (u : TaskId). u.0) f, settled.sized)
            ];
      }
    where
      -- a position is outside of the stretch, or one of its tasks is there
      in_or_out : (k : ℕ) (d : TaskId) → ((k < position_of o b) ⊎ (position_of o b + length ts ≤ k))
          ⊎ ((j : ℕ) × (j < length ts) × (position_of o b + j ≡ k) × (get_or after k d ≡ get_or ts j d))
      in_or_out k d =
          elim (cases_lt k (position_of o b)) [
            | inl low ↦ inl (inl low)
            | inr above ↦ elim (cases_lt k (position_of o b + length ts)) [
              | inl inside ↦
                  let j : ℕ = k - position_of o b in
                  let e : position_of o b + j ≡ k = omega arith in
                  inr (j, omega arith, e, ap (λ i. get_or after i d) (sym e) ∙ settled.at_here j d (omega arith))
              | inr past ↦ inl (inr past)
            ]
          ]

      task_beside : (k : ℕ) (d : TaskId) → k < length after → (k < position_of o b) ⊎ (position_of o b + length ts ≤ k) → (get_or after k d).0 < length positions
      task_beside k d lt out =
          omega (arith, ap (λ (u : TaskId). u.0) (settled.at_there k d out), inverse.inside k d (omega (arith, settled.at_sized)), settled.sized)

      beside_at : (k : ℕ) (d : TaskId) → k < length after → (k < position_of o b) ⊎ (position_of o b + length ts ≤ k) → slice_index positions (get_or after k d).0 ≡ k
      beside_at k d lt out =
          let l : k < length at = omega (arith, settled.at_sized) in
          let p : position_of o (get_or at k d) ≡ k = inverse.position_at k d l in
          let none' : Contains ts (get_or at k d) → ⊥ =
          λ m. let (x, y, z) = (mended.exact (get_or at k d)).0 m in elim out [ inl low ↦ omega arith | inr past ↦ omega (arith, mended.sized) ] in
          ap (λ (u : TaskId). slice_index positions u.0) (settled.at_there k d out) ∙ settled.positions_there (get_or at k d) none' ∙ p

  -- with the new edge it is an order
  module _ (row : List TaskId) (ascends : Ascend row) (more : (u : TaskId) → Contains row u ↔ (Contains (successors_of o a) u ⊎ (u ≡ b))) where
    mended_order_of : OrderValue
    mended_order_of = record { edges = set o.edges a.0 row; positions = positions }

    row_tasks : All (All (IsTaskOf o)) (set o.edges a.0 row)
    row_tasks =
        All-set (All (IsTaskOf o)) o.edges a.0 row (λ k d lt. elim ((more (get_or row k d)).0 (Contains-get_or row k d lt)) [
          | inl h ↦ to_task o ok a (get_or row k d) h
          | inr e ↦ subst (λ t. IsTaskOf o t) (sym e) to
        ]) ok.are_tasks

    pub mended_order : IsOrder (record { edges = set o.edges a.0 row; positions = positions })
    unfolding now Goes
    mended_order =
        record {
          sized = length-set o.edges a.0 row ∙ ok.sized ∙ sym settled.sized;
          few = omega (arith, ok.few, settled.sized);
          ascend = All-set Ascend o.edges a.0 row ascends ok.ascend;
          are_tasks = λ i d lt k e l. omega (arith, settled.sized, row_tasks i d lt k e l);
          inside = λ t task. omega (arith, settled.sized, now_inside t (omega (arith, settled.sized)));
          distinct = λ t u task task' same. now_distinct t u (omega (arith, settled.sized)) (omega (arith, settled.sized)) same;
          forward = λ x y h.
              let goes : IsEdge o x y ⊎ ((x ≡ a) × (y ≡ b)) = (row_more o ok a from row b more x y).0 h in
              now_up x y (elim goes [ inl g ↦ from_task o ok x y g | inr e ↦ subst (λ t. IsTaskOf o t) (sym e.0) from ]) (
              elim goes [ inl g ↦ to_task o ok x y g | inr e ↦ subst (λ t. IsTaskOf o t) (sym e.1) to ]) goes;
        }

    pub mended_edge : HasEdgeMore a b o (record { edges = set o.edges a.0 row; positions = positions })
    mended_edge =
        record {
          tasks = settled.sized;
          edges = row_more o ok a from row b more;
          moved = λ t task out. settled.positions_there t (λ m. let (x, y, z) = (mended.exact t).0 m in elim out [ inl l ↦ omega arith | inr h ↦ omega arith ]);
          no_walk = none;
        }
