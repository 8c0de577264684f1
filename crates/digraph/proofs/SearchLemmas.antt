-- What each step of the search for cycles keeps.
use Rattle.std.proofs.Common.{◌≡◌, ℕ, zero, suc, ◌+◌, ◌-◌, ◌<◌, ◌≤◌, List, [], ◌∷◌, ◌++◌, length, sym, ap, ◌∙◌, subst, inl, inr, arith, get_or, set, get_or-set_other, get_or-set_same, length-set, length-append}
use Rattle.std.specs.Prelude.{Contains, All}
use Rattle.std.proofs.lemmas.Bool.{cases_eq, cases_lt}
use Rattle.std.proofs.lemmas.List.{get_or_append_left, get_or_at, get_or_default}
use Rattle.std.proofs.lemmas.List.Elements.{Contains-append_left, Contains-push, Contains-push_cases, All-contains, All-push}
use Rattle.armus_base.specs.calls.Relations.{Walk, ReachesCycle, IsInClosedSet}
use Rattle.digraph.specs.calls.Graph.{HasEdge}
use Rattle.digraph.specs.inside.Search.{IsSearch, row_of}
use Rattle.digraph.specs.declared.search.Mark.{Mark}
use Rattle.digraph.specs.declared.search.Mark.TheVariants.{Unvisited, OnStack, Acyclic, Cyclic}
use Rattle.armus_base.proofs.Walks.{reaches_back, reaches_own}

-- a fact on each element of a list, after a write
pub at_set :
    {A : Type 0} (P : ℕ → A → Type 0) (xs : List A) (i : ℕ) (y d : A) → i < length xs →
    ((v : ℕ) → (v ≡ i → ⊥) → P v (get_or xs v d)) → P i y → (v : ℕ) → P v (get_or (set xs i y) v d)
at_set P xs i y d lt all here v =
    elim (cases_eq v i) [
      | inl e ↦ subst (λ w. P w (get_or (set xs i y) w d)) (sym e) (rw get_or-set_same here)
      | inr ne ↦ rw get_or-set_other (all v ne)
    ]

-- what is true of neighbors in a list is true of them in its front
pub front_chain :
    (P : ℕ → ℕ → Type 0) (s : List ℕ) (x : ℕ) →
    ((k : ℕ) → k + 1 < length (s ++ x ∷ []) → P (get_or (s ++ x ∷ []) k 0) (get_or (s ++ x ∷ []) (k + 1) 0)) →
    (k : ℕ) → k + 1 < length s → P (get_or s k 0) (get_or s (k + 1) 0)
front_chain P s x all k lt =
    let a = get_or_append_left s (x ∷ []) 0 k (omega arith) in
    let b = get_or_append_left s (x ∷ []) 0 (k + 1) lt in
    rw (← a, ← b) (all k (omega (arith, length-append s (x ∷ []))))

pub push_chain :
    (P : ℕ → ℕ → Type 0) (s : List ℕ) (x : ℕ) → ((k : ℕ) → k + 1 < length s → P (get_or s k 0) (get_or s (k + 1) 0)) →
    (0 < length s → P (get_or s (length s - 1) 0) x) →
    (k : ℕ) → k + 1 < length (s ++ x ∷ []) → P (get_or (s ++ x ∷ []) k 0) (get_or (s ++ x ∷ []) (k + 1) 0)
push_chain P s x all last k lt =
    let n = length-append s (x ∷ []) in
    elim (cases_lt (k + 1) (length s)) [
      | inl in' ↦
          let a = get_or_append_left s (x ∷ []) 0 k (omega arith) in
          let b = get_or_append_left s (x ∷ []) 0 (k + 1) in' in
          rw (a, b) (all k in')
      | inr out ↦
          let e : length s ≡ k + 1 = omega arith in
          let a = get_or_append_left s (x ∷ []) 0 k (omega arith) in
          let b = get_or_at s x [] 0 (k + 1) e in
          let f : length s - 1 ≡ k = omega arith in
          rw (a, b) (subst (λ j. P (get_or s j 0) x) f (last (omega arith)))
    ]

module _ (g : List (List ℕ)) (marks : List Mark) (left : List ℕ) (s : List ℕ) where
  -- the top of the stack is done with, and gets the mark m
  pub pop_step :
      (top : ℕ) (m : Mark) → IsSearch g marks left (s ++ top ∷ []) → (m ≡ Acyclic → IsInClosedSet (HasEdge g) top → ⊥) →
      (m ≡ Cyclic → ReachesCycle (HasEdge g) top) → (m ≡ OnStack → ⊥) → IsSearch g (set marks top m) left s
  pop_step top m h acyclic cyclic shut =
      let in' : top < length g = All-contains (λ v. v < length g) (s ++ top ∷ []) top h.walk.nodes (Contains-push s top) in
      let lt : top < length marks = rw h.marks_sized in' in
      record {
        marks_sized = length-set marks top m ∙ h.marks_sized;
        left_sized = h.left_sized;
        bounded = h.bounded;
        acyclic = at_set (λ v n. n ≡ Acyclic → IsInClosedSet (HasEdge g) v → ⊥) marks top m Unvisited lt (λ v _. h.acyclic v) acyclic;
        cyclic = at_set (λ v n. n ≡ Cyclic → ReachesCycle (HasEdge g) v) marks top m Unvisited lt (λ v _. h.cyclic v) cyclic;
        on_stack = at_set (λ v n. n ≡ OnStack → Contains s v) marks top m Unvisited lt
            (λ v ne e. elim (Contains-push_cases s top v (h.on_stack v e)) [ inl i ↦ i | inr same ↦ absurd (ne (sym same)) ])
            (λ e. absurd (shut e));
        seen = h.seen;
        walk = record {
          nodes = λ k d l. subst (λ x. x < length g) (get_or_append_left s (top ∷ []) d k l) (h.walk.nodes k d (omega (arith, length-append s (top ∷ []))));
          chain = front_chain (HasEdge g) s top h.walk.chain;
        };
      }

  -- a node is put on the stack
  pub push_step :
      (next : ℕ) → next < length g → IsSearch g marks left s → (0 < length s → HasEdge g (get_or s (length s - 1) 0) next) →
      IsSearch g (set marks next OnStack) left (s ++ next ∷ [])
  push_step next in' h edge =
      let lt : next < length marks = rw h.marks_sized in' in
      record {
        marks_sized = length-set marks next OnStack ∙ h.marks_sized;
        left_sized = h.left_sized;
        bounded = h.bounded;
        acyclic = at_set (λ v n. n ≡ Acyclic → IsInClosedSet (HasEdge g) v → ⊥) marks next OnStack Unvisited lt (λ v _. h.acyclic v) (λ e. absurd cc);
        cyclic = at_set (λ v n. n ≡ Cyclic → ReachesCycle (HasEdge g) v) marks next OnStack Unvisited lt (λ v _. h.cyclic v) (λ e. absurd cc);
        on_stack = at_set (λ v n. n ≡ OnStack → Contains (s ++ next ∷ []) v) marks next OnStack Unvisited lt
            (λ v ne e. Contains-append_left s (next ∷ []) v (h.on_stack v e))
            (λ e. Contains-push s next);
        seen = h.seen;
        walk = record {
          nodes = All-push (λ v. v < length g) s next h.walk.nodes in';
          chain = push_chain (HasEdge g) s next h.walk.chain edge;
        };
      }

  -- one more successor of a node is known to reach no cycle
  pub look_step :
      (top l : ℕ) → top < length g → IsSearch g marks left s → get_or left top 0 ≡ l + 1 →
      (IsInClosedSet (HasEdge g) (get_or (row_of g top) l 0) → ⊥) → IsSearch g marks (set left top l) s
  look_step top l in' h is acyclic =
      let lt : top < length left = rw h.left_sized in' in
      record {
        marks_sized = h.marks_sized;
        left_sized = length-set left top l ∙ h.left_sized;
        bounded = at_set (λ v n. n ≤ length (row_of g v)) left top l 0 lt (λ v _. h.bounded v) (omega (arith, h.bounded top));
        acyclic = h.acyclic;
        cyclic = h.cyclic;
        on_stack = h.on_stack;
        seen = at_set (λ v n. (k : ℕ) → n ≤ k → k < length (row_of g v) → IsInClosedSet (HasEdge g) (get_or (row_of g v) k 0) → ⊥) left top l 0 lt
            (λ v _. h.seen v)
            (λ k le fits c. elim (cases_eq k l) [
              | inl e ↦ acyclic (subst (λ j. IsInClosedSet (HasEdge g) (get_or (row_of g top) j 0)) e c)
              | inr ne ↦ h.seen top k (omega arith) fits c
            ]);
        walk = h.walk;
      }

  -- a node with nothing left to look at reaches no cycle
  pub nothing_left : (top : ℕ) → IsSearch g marks left s → get_or left top 0 ≡ 0 → IsInClosedSet (HasEdge g) top → ⊥
  nothing_left top h is (set, here, keeps) =
      let (b, (k, fits, e), there) = keeps top here in
      let at = get_or_default (row_of g top) k 0 b fits ∙ e in
      h.seen top k (omega arith) fits (subst (λ x. IsInClosedSet (HasEdge g) x) (sym at) (set, there, keeps))

  -- the stack is a walk
  walk_on : IsSearch g marks left s → (n j i : ℕ) → j + n ≡ i → i < length s → Walk (HasEdge g) n (get_or s j 0) (get_or s i 0)
  walk_on h zero j i e lt = ap (λ x. get_or s x 0) (omega arith)
  walk_on h (suc n) j i e lt = (get_or s (j + 1) 0, h.walk.chain j (omega arith), walk_on h n (j + 1) i (omega arith) lt)

  -- an edge from its top back to one of its nodes closes a cycle
  pub back_edge :
      (next : ℕ) → IsSearch g marks left s → Contains s next → HasEdge g (get_or s (length s - 1) 0) next →
      ReachesCycle (HasEdge g) (get_or s (length s - 1) 0)
  back_edge next h (k, lt, e) edge =
      let top : ℕ = get_or s (length s - 1) 0 in
      let n : ℕ = length s - 1 - k in
      let at = get_or_default s k 0 next lt ∙ e in
      let walk = walk_on h n k (length s - 1) (omega arith) (omega arith) in
      reaches_back (HasEdge g) top next edge (reaches_own (HasEdge g) n next top (subst (λ x. Walk (HasEdge g) n x top) at walk) edge)

  -- if its top reaches a cycle, each of its nodes does
  reach_down :
      IsSearch g marks left s → ReachesCycle (HasEdge g) (get_or s (length s - 1) 0) → (n k : ℕ) → k + n ≡ length s - 1 → k < length s →
      ReachesCycle (HasEdge g) (get_or s k 0)
  reach_down h top zero k e lt = subst (λ x. ReachesCycle (HasEdge g) (get_or s x 0)) (omega arith) top
  reach_down h top (suc n) k e lt =
      reaches_back (HasEdge g) (get_or s k 0) (get_or s (k + 1) 0) (h.walk.chain k (omega arith)) (reach_down h top n (k + 1) (omega arith) (omega arith))

  pub all_reach : IsSearch g marks left s → ReachesCycle (HasEdge g) (get_or s (length s - 1) 0) → All (λ v. ReachesCycle (HasEdge g) v) s
  all_reach h top k d lt =
      subst (λ x. ReachesCycle (HasEdge g) x) (get_or_default s k 0 d lt) (reach_down h top (length s - 1 - k) k (omega arith) lt)
