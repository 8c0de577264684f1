-- Edges that become the pairs of a relation.
use Rattle.std.proofs.Common.{◌≡◌, ℕ, suc, ◌+◌, ◌-◌, ◌<◌, List, [], ◌∷◌, ◌++◌, length, refl, sym, ap, ◌∙◌, subst, ◌⊎◌, inl, inr, arith, get_or, take, drop}
use Rattle.std.specs.Prelude.{Contains, ◌↔◌}
use Rattle.std.proofs.lemmas.Bool.{cases_eq, cases_lt}
use Rattle.std.proofs.lemmas.List.{ext_get_or, get_or_default, take-append-drop, take_more}
use Rattle.std.proofs.lemmas.List.Elements.{Contains-append_left, Contains-push, Contains-push_cases}
use Rattle.armus_base.specs.declared.ids.TaskId.{TaskId}
use Rattle.armus_base.specs.Relations.{IsWalk}
use Rattle.armus_base.specs.calls.Relations.{ReachesCycle, Walk}
use Rattle.armus_base.proofs.Walks.{reaches_own}
use Rattle.dep_state.proofs.DeadSets.{same_task}
use Rattle.order_graph.specs.calls.Adding.{HasEdgeMore, IsNearest, IsNearestWalk}
use Rattle.order_graph.specs.calls.Following.{AnswersFollowing, Follows, StopsAtCycle}
use Rattle.order_graph.specs.declared.answers.Followed.{Followed}
use Rattle.order_graph.specs.declared.answers.Followed.TheVariants.{Kept, Dead}
use Rattle.order_graph.specs.calls.Orders.{OrderValue, IsEdge, IsOrder, position_of, successors_of}
use Rattle.order_graph.specs.calls.Waits.{Awaits, own_set}
use Rattle.order_graph.specs.declared.waits.Waits.{Waits}
use Rattle.order_graph.specs.inside.Rows.{KeepsOnly}
use Rattle.order_graph.specs.inside.Steps.{AddsAll, AnswersEdges, HasOthers, KeepsPairs, PairsFrom, StopsAt, ToWanted}
use Rattle.order_graph.proofs.Climbing.{from_task, no_cycle, walk_along}

-- of the edges from the first n tasks just the pairs are left
abbrev pub KeepsPairsBelow : (TaskId → TaskId → Type 0) → ℕ → OrderValue → OrderValue → Type 0
KeepsPairsBelow Pair n old new = (a b : TaskId) → IsEdge new a b ↔ (IsEdge old a b × (a.0 < n → Pair a b))

-- there is an edge for each pair from the first n tasks that is not from one of these
abbrev pub HasOthersBelow : (TaskId → TaskId → Type 0) → ℕ → List TaskId → OrderValue → Type 0
HasOthersBelow Pair n behind o = (a b : TaskId) → a.0 < n → Pair a b → IsEdge o a b ⊎ Contains behind a

-- one more is noted
pub others_noted :
    (Pair : TaskId → TaskId → Type 0) (n : ℕ) (t : TaskId) (behind : List TaskId) (o : OrderValue) → HasOthersBelow Pair n behind o → HasOthersBelow Pair n (behind ++ t ∷ []) o
others_noted Pair n t behind o others a b lt p = elim (others a b lt p) [ inl m ↦ inl m | inr m ↦ inr (Contains-append_left behind (t ∷ []) a m) ]

module _ (Pair : TaskId → TaskId → Type 0) where
  pub keeps_below_none : (o : OrderValue) → KeepsPairsBelow Pair 0 o o
  keeps_below_none o a b = (λ h. (h, λ lt. absurd (omega arith)), λ (h, w). h)

  -- one more task
  pub keeps_below_more :
      (t : TaskId) (wanted : List TaskId) (old mid new : OrderValue) → KeepsPairsBelow Pair t.0 old mid → KeepsOnly t wanted mid new →
      ((b : TaskId) → Contains wanted b ↔ Pair t b) → KeepsPairsBelow Pair (t.0 + 1) old new
  keeps_below_more t wanted old mid new below only is a b = (
    λ h.
        let (m, on) = (only.edges a b).0 h in
        let (o, w) = (below a b).0 m in (
          o,
          λ lt. elim (cases_eq a.0 t.0) [
            | inl e ↦ let same : a ≡ t = same_task a t e in subst (λ x. Pair x b) (sym same) ((is b).0 (on same))
            | inr ne ↦ w (omega arith)
          ],
        ),
    λ (o, w). (only.edges a b).1 ((below a b).1 (o, λ lt. w (omega arith)), λ e. (is b).1 (subst (λ x. Pair x b) e (w (omega (arith, ap (λ (x : TaskId). x.0) e))))),
  )

  -- one more task, which has all its pairs, or is noted
  pub others_more :
      (t : TaskId) (wanted behind : List TaskId) (mid new : OrderValue) → KeepsOnly t wanted mid new → ((b : TaskId) → Contains wanted b ↔ Pair t b) →
      HasOthersBelow Pair t.0 behind mid → successors_of new t ≡ wanted ⊎ Contains behind t → HasOthersBelow Pair (t.0 + 1) behind new
  others_more t wanted behind mid new only is others here a b lt p =
      elim (cases_eq a.0 t.0) [
        | inl e ↦
            let same : a ≡ t = same_task a t e in
            elim here [
              | inl all ↦ inl (subst (λ x. IsEdge new x b) (sym same) (subst (λ ts. Contains {X = TaskId} ts b) (sym all) ((is b).1 (subst (λ x. Pair x b) same p))))
              | inr m ↦ inr (subst (λ x. Contains behind x) (sym same) m)
            ]
        | inr ne ↦ elim (others a b (omega arith) p) [
          | inl m ↦ inl ((only.edges a b).1 (m, λ e. absurd (ne (ap (λ (x : TaskId). x.0) e))))
          | inr m ↦ inr m
        ]
      ]

  pub keeps_below_all :
      (n : ℕ) (old new : OrderValue) → IsOrder old → n ≡ length old.positions → new.positions ≡ old.positions → KeepsPairsBelow Pair n old new → KeepsPairs Pair old new
  keeps_below_all n old new ok all same below =
      record {
        positions = same;
        edges = λ a b. (
          λ h. let (o, w) = (below a b).0 h in (o, w (omega (arith, from_task old ok a b o))),
          λ (o, w). (below a b).1 (o, λ lt. w),
        );
      }

-- nobody moves for an edge that goes up
positions_same : (t b : TaskId) (old new : OrderValue) → HasEdgeMore t b old new → position_of old t < position_of old b → new.positions ≡ old.positions
positions_same t b old new more up =
    ext_get_or 0 new.positions old.positions more.tasks (λ i lt.
    let x : TaskId = record { 0 = i } in
    more.moved x (omega (arith, more.tasks)) (elim (cases_lt (position_of old x) (position_of old b)) [ inl l ↦ inl l | inr h ↦ inr (omega arith) ]))

-- one edge
abbrev pub IsOne : TaskId → TaskId → TaskId → TaskId → Type 0
IsOne t b x y = (x ≡ t) × (y ≡ b)

pub adds_one : (t b : TaskId) (old new : OrderValue) → HasEdgeMore t b old new → AddsAll (IsOne t b) old new
adds_one t b old new more = record { edges = more.edges; stays = λ up. positions_same t b old new more (up t b (refl, refl)) }

-- a list that goes along a relation is a walk
walk_of : {X : Type 0} (R : X → X → Type 0) (x : X) (xs : List X) → IsWalk R (x ∷ xs) → Walk R (length xs) x (get_or (x ∷ xs) (length xs) x)
walk_of R x [] steps = refl
walk_of R x (y ∷ ys) steps =
    let tail : IsWalk R (y ∷ ys) = λ k d lt. let e : suc k + 1 ≡ suc (k + 1) = omega arith in
    subst (λ j. R (get_or (y ∷ ys) k d) (get_or (x ∷ y ∷ ys) j d)) e (steps (suc k) d (omega arith)) in
    let end : get_or (y ∷ ys) (length ys) y ≡ get_or (y ∷ ys) (length ys) x = get_or_default (y ∷ ys) (length ys) y x (omega arith) in
    (y, steps 0 x (omega arith), subst (λ z. Walk R (length ys) y z) end (walk_of R y ys tail))

-- a walk by nearest successors is a walk along edges
pub nearest_walks : (o : OrderValue) (start goal : TaskId) (list : List TaskId) → IsNearestWalk o start goal list → (n : ℕ) × Walk (IsEdge o) n start goal
nearest_walks o start goal [] is = absurd (omega (arith, is.some))
nearest_walks o start goal (x ∷ xs) is =
    let w = walk_of (IsNearest o goal) x xs is.steps in
    let last : length (x ∷ xs) - 1 ≡ length xs = omega arith in
    let end : get_or (x ∷ xs) (length xs) x ≡ goal = ap (λ k. get_or (x ∷ xs) k x) (sym last) ∙ is.ends x in (
      length xs,
      walk_along (IsNearest o goal) (IsEdge o) (λ a b near. near.edge) (length xs) start goal
          (subst (λ z. Walk (IsNearest o goal) (length xs) z goal) (is.starts x) (subst (λ z. Walk (IsNearest o goal) (length xs) x z) end w)),
    )

pub stops_one : (t b : TaskId) (o : OrderValue) (list : List TaskId) → IsNearestWalk o b t list → StopsAt (IsOne t b) o o
stops_one t b o list is =
    let (n, w) = nearest_walks o b t list is in
    record { some = λ x y h. inl h; kept = λ x y h. h; cycle = (t, b, n, (refl, refl), w) }

-- edges of A, and then edges of B
module _ (A B C : TaskId → TaskId → Type 0) (old mid new : OrderValue) (adds : AddsAll A old mid) where
  pub adds_both : AddsAll B mid new → ((x y : TaskId) → C x y ↔ (A x y ⊎ B x y)) → AddsAll C old new
  adds_both more is =
      record {
        edges = λ x y. (
          λ h. elim ((more.edges x y).0 h) [
            | inl m ↦ elim ((adds.edges x y).0 m) [ inl o ↦ inl o | inr a ↦ inr ((is x y).1 (inl a)) ]
            | inr b ↦ inr ((is x y).1 (inr b))
          ],
          λ h. (more.edges x y).1 (elim h [
            | inl o ↦ inl ((adds.edges x y).1 (inl o))
            | inr c ↦ elim ((is x y).0 c) [ inl a ↦ inl ((adds.edges x y).1 (inr a)) | inr b ↦ inr b ]
          ]),
        );
        stays = λ up.
            let first : mid.positions ≡ old.positions = adds.stays (λ x y a. up x y ((is x y).1 (inl a))) in
            more.stays (λ x y b. subst (λ (p : List ℕ). get_or p x.0 0 < get_or p y.0 0) (sym first) (up x y ((is x y).1 (inr b)))) ∙ first;
      }

  pub adds_stop : StopsAt B mid new → ((x y : TaskId) → A x y ⊎ B x y → C x y) → StopsAt C old new
  adds_stop stop is =
      let (t, b, n, h, w) = stop.cycle in
      record {
        some = λ x y h. elim (stop.some x y h) [
          | inl m ↦ elim ((adds.edges x y).0 m) [ inl o ↦ inl o | inr a ↦ inr (is x y (inl a)) ]
          | inr b ↦ inr (is x y (inr b))
        ];
        kept = λ x y h. stop.kept x y ((adds.edges x y).1 (inl h));
        cycle = (t, b, n, is t b (inr h), w);
      }

-- one more wanted task
pub wanted_more :
    (t : TaskId) (wanted : List TaskId) (i : ℕ) (d : TaskId) → i < length wanted → (x y : TaskId) →
    ToWanted t (take (i + 1) wanted) x y ↔ (ToWanted t (take i wanted) x y ⊎ IsOne t (get_or wanted i d) x y)
wanted_more t wanted i d lt x y =
    let b : TaskId = get_or wanted i d in
    rw (take_more wanted i d lt) (
      λ (s, m). elim (Contains-push_cases (take i wanted) b y m) [ inl l ↦ inl (s, l) | inr f ↦ inr (s, sym f) ],
      λ h. elim h [
        | inl (s, l) ↦ (s, Contains-append_left (take i wanted) (b ∷ []) y l)
        | inr (s, f) ↦ (s, subst (λ z. Contains (take i wanted ++ b ∷ []) z) (sym f) (Contains-push (take i wanted) b))
      ],
    )

pub in_whole : (ts : List TaskId) (i : ℕ) (t : TaskId) → Contains (take i ts) t → Contains ts t
in_whole ts i t m = rw take-append-drop at (Contains-append_left (take i ts) (drop i ts) t m)

-- the pairs from one more task of a list
pub pairs_more :
    (Pair : TaskId → TaskId → Type 0) (wanted ts : List TaskId) (i : ℕ) (d : TaskId) → i < length ts →
    ((b : TaskId) → Contains wanted b ↔ Pair (get_or ts i d) b) → (x y : TaskId) → PairsFrom Pair (take (i + 1) ts) x y ↔ (PairsFrom Pair (take i ts) x y ⊎ ToWanted (get_or ts i d) wanted x y)
pairs_more Pair wanted ts i d lt is x y =
    let t : TaskId = get_or ts i d in
    rw (take_more ts i d lt) (
      λ (m, p). elim (Contains-push_cases (take i ts) t x m) [
        | inl l ↦ inl (l, p)
        | inr f ↦ inr (sym f, (is y).1 (subst (λ z. Pair z y) (sym f) p))
      ],
      λ h. elim h [
        | inl (m, p) ↦ (Contains-append_left (take i ts) (t ∷ []) x m, p)
        | inr (f, m) ↦ (subst (λ z. Contains (take i ts ++ t ∷ []) z) (sym f) (Contains-push (take i ts) t), subst (λ z. Pair z y) (sym f) ((is y).0 m))
      ],
    )

-- the pairs from the first tasks of a list, and from the next one, are pairs from its tasks
pub pairs_so_far :
    (Pair : TaskId → TaskId → Type 0) (wanted ts : List TaskId) (i : ℕ) (d : TaskId) → i < length ts →
    ((b : TaskId) → Contains wanted b ↔ Pair (get_or ts i d) b) → (x y : TaskId) → PairsFrom Pair (take i ts) x y ⊎ ToWanted (get_or ts i d) wanted x y → PairsFrom Pair ts x y
pairs_so_far Pair wanted ts i d lt is x y h = let (m, p) = (pairs_more Pair wanted ts i d lt is x y).1 h in (in_whole ts (i + 1) x m, p)

-- a relation with the same pairs reaches the same cycles
same_cycle : (R S : TaskId → TaskId → Type 0) → ((a b : TaskId) → R a b → S a b) → (t : TaskId) → ReachesCycle R t → ReachesCycle S t
same_cycle R S more t h =
    record {
      node = h.node;
      steps = h.steps;
      walk = walk_along R S more h.steps t h.node h.walk;
      more = h.more;
      cycle = walk_along R S more (suc h.more) h.node h.node h.cycle;
    }

module _ (Pair : TaskId → TaskId → Type 0) (ts : List TaskId) (old mid new : OrderValue) (others : HasOthers Pair ts mid) (kept : KeepsPairs Pair old mid) where
  -- all pairs were added
  followed : AddsAll (PairsFrom Pair ts) mid new → IsOrder new → Follows Pair old new
  followed adds ok =
      let edges : (a b : TaskId) → IsEdge new a b ↔ Pair a b =
      λ a b. (
        λ h. elim ((adds.edges a b).0 h) [ inl m ↦ ((kept.edges a b).0 m).1 | inr p ↦ p.1 ],
        λ w. (adds.edges a b).1 (elim (others a b w) [ inl m ↦ inl m | inr from ↦ inr (from, w) ]),
      ) in
      record {
        edges = edges;
        no_cycle = λ t h. no_cycle new ok t (same_cycle Pair (IsEdge new) (λ a b w. (edges a b).1 w) t h);
        stays = λ up. adds.stays (λ a b p. subst (λ (q : List ℕ). get_or q a.0 0 < get_or q b.0 0) (sym kept.positions) (up a b p.1)) ∙ kept.positions;
      }

  -- some pairs were added, and another one closes a cycle
  finds_cycle : StopsAt (PairsFrom Pair ts) mid new → StopsAtCycle Pair old new
  finds_cycle stop =
      let some : (a b : TaskId) → IsEdge new a b → Pair a b = λ a b h. elim (stop.some a b h) [ inl m ↦ ((kept.edges a b).0 m).1 | inr p ↦ p.1 ] in
      let (t, b, k, p, w) = stop.cycle in
      record {
        cycle = (b, reaches_own Pair k b t (walk_along (IsEdge new) Pair some k b t w) p.1);
        some = some;
        kept = λ x y h v. stop.kept x y ((kept.edges x y).1 (h, v));
      }

  -- what came of all pairs is what a call answers that follows them
  pub answers_following : IsOrder new → (f : Followed) → AnswersEdges (PairsFrom Pair ts) mid new f → AnswersFollowing Pair old new f
  answers_following ok Kept adds = followed adds ok
  answers_following ok Dead stop = finds_cycle stop

-- edges to the first wanted tasks, and the one to the next, are edges to wanted tasks
pub wanted_so_far :
    (t : TaskId) (wanted : List TaskId) (i : ℕ) (d : TaskId) → i < length wanted → (x y : TaskId) →
    ToWanted t (take i wanted) x y ⊎ IsOne t (get_or wanted i d) x y → ToWanted t wanted x y
wanted_so_far t wanted i d lt x y h = let (s, m) = (wanted_more t wanted i d lt x y).1 h in (s, in_whole wanted (i + 1) y m)

-- what follows a relation follows one with the same pairs
pub follows_same :
    (R S : TaskId → TaskId → Type 0) (old new : OrderValue) → ((a b : TaskId) → R a b ↔ S a b) → (f : Followed) → AnswersFollowing R old new f → AnswersFollowing S old new f
follows_same R S old new is Kept h =
    record {
      edges = λ a b. (λ e. (is a b).0 ((h.edges a b).0 e), λ w. (h.edges a b).1 ((is a b).1 w));
      no_cycle = λ t c. h.no_cycle t (same_cycle S R (λ a b w. (is a b).1 w) t c);
      stays = λ up. h.stays (λ a b w. up a b ((is a b).0 w));
    }
follows_same R S old new is Dead h =
    let (t, c) = h.cycle in
    record {
      cycle = (t, same_cycle R S (λ a b w. (is a b).0 w) t c);
      some = λ a b e. (is a b).0 (h.some a b e);
      kept = λ a b e w. h.kept a b e ((is a b).1 w);
    }

-- the edges that were missing, and those that were there, are all that were wanted
pub answers_missing :
    (t : TaskId) (missing wanted : List TaskId) (old new : OrderValue) → ((b : TaskId) → Contains missing b → Contains wanted b) →
    ((b : TaskId) → Contains wanted b → Contains missing b ⊎ IsEdge old t b) → (f : Followed) → AnswersEdges (ToWanted t missing) old new f →
    AnswersEdges (ToWanted t wanted) old new f
answers_missing t missing wanted old new within all Kept adds =
    record {
      edges = λ a b. (
        λ h. elim ((adds.edges a b).0 h) [ inl o ↦ inl o | inr w ↦ inr (w.0, within b w.1) ],
        λ h. (adds.edges a b).1 (elim h [
          | inl o ↦ inl o
          | inr w ↦ elim (all b w.1) [ inl m ↦ inr (w.0, m) | inr o ↦ inl (subst (λ x. IsEdge old x b) (sym w.0) o) ]
        ]),
      );
      stays = λ up. adds.stays (λ a b w. up a b (w.0, within b w.1));
    }
answers_missing t missing wanted old new within all Dead stop =
    let (a, b, n, w, walk) = stop.cycle in
    record {
      some = λ x y h. elim (stop.some x y h) [ inl o ↦ inl o | inr m ↦ inr (m.0, within y m.1) ];
      kept = stop.kept;
      cycle = (a, b, n, (w.0, within b w.1), walk);
    }

-- a task's own set has just the tasks for which it waits
pub own_pairs :
    (w : Waits) (t : TaskId) → t.0 < length w.own.items → (set : List TaskId) → set ≡ own_set w t → (b : TaskId) → Contains set b ↔ Awaits w t b
own_pairs w t lt set is b = (λ m. (lt, subst (λ ts. Contains {X = TaskId} ts b) is m), λ (l, m). subst (λ ts. Contains {X = TaskId} ts b) (sym is) m)
