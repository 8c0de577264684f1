-- The steps of the search, in the words that `step` reads them.
use Rattle.std.proofs.Common.{◌≡◌, ℕ, ◌+◌, ◌-◌, ◌<◌, ◌≤◌, Bool, true, false, cond, List, [], ◌∷◌, ◌++◌, length, refl, sym, ap, ◌∙◌, subst, arith, get_or, set, count_by, Option, Some, inl, inr}
use Rattle.std.specs.Prelude.{All, map, Vec}
use Rattle.std.specs.Global.{Global}
use Rattle.std.specs.Option.{option_to_list}
use Rattle.std.proofs.lemmas.List.{get_or_default, get_or-map, length-map, get_or_past}
use Rattle.std.proofs.lemmas.List.Elements.{All-get_or}
use Rattle.std.proofs.lemmas.List.Sums.{sum_by-set}
use Rattle.std.proofs.lemmas.Bool.{cases_Bool, cases_lt}
use Rattle.armus_base.specs.calls.Relations.{ReachesCycle, IsInClosedSet}
use Rattle.digraph.specs.calls.Graph.{HasEdge, graph_of, TellsCycles}
use Rattle.digraph.specs.inside.Rows.{IsGraph}
use Rattle.digraph.specs.inside.Search.{AllAreMarked, IsAhead, IsSearch, is_cyclic, is_unvisited, mark_of, row_of}
use Rattle.digraph.specs.declared.search.Mark.{Mark}
use Rattle.digraph.specs.declared.search.Mark.TheVariants.{Unvisited, OnStack, Acyclic, Cyclic}
use Rattle.digraph.proofs.SearchLemmas.{pop_step, push_step, look_step, nothing_left, back_edge, all_reach}
use Rattle.armus_base.proofs.Walks.{reaches_back, closed_from_reaches}

-- a node that is no longer new
pub count_less : (marks : List Mark) (v : ℕ) (m d : Mark) → v < length marks → is_unvisited m ≡ false → count_by is_unvisited (set marks v m) ≤ count_by is_unvisited marks
count_less marks v m d lt old =
    let e = sum_by-set (λ x. cond (is_unvisited x) 1 0) marks v m d lt in
    let z : ◌≡◌ {A = ℕ} (cond (is_unvisited m) 1 0) 0 = ap (λ b. cond {A = ℕ} b 1 0) old in
    omega (arith, e, z)

-- a value that was read
pub read_at : {A : Type 0} (xs : List A) (i : ℕ) (x d : A) → i < length xs → x ≡ get_or xs i x → get_or xs i d ≡ x
read_at xs i x d lt e = get_or_default xs i d x lt ∙ sym e

module _ (g : List (List ℕ)) (marks : List Mark) (left : List ℕ) (stack : List ℕ) (h : IsSearch g marks left stack) (more : 0 < length stack) where
  -- the top of the stack is a node
  pub top_below : get_or stack (length stack - 1) 0 < length g
  top_below = All-get_or (λ v. v < length g) stack (length stack - 1) 0 (omega arith) h.walk.nodes

  -- it has nothing left to look at, and is taken off
  pub finish :
      (s : List ℕ) (top : ℕ) (r : Option ℕ) → top ≡ get_or stack (length stack - 1) 0 → stack ≡ s ++ option_to_list r →
      r ≡ Some (get_or stack (length stack - 1) 0) → get_or left top 0 ≡ 0 → IsSearch g (set marks top Acyclic) left s
  finish s top r is parts took none =
      let split : stack ≡ s ++ top ∷ [] = rw (took, ← is) at parts in
      pop_step g marks left s top Acyclic (subst (IsSearch g marks left) split h) (λ _. nothing_left g marks left stack top h none) (λ e. absurd cc) (λ e. absurd cc)

  module _ (top next : ℕ) (is : top ≡ get_or stack (length stack - 1) 0) (a : IsAhead g left top next) where
    -- one more successor reaches no cycle
    pub look : mark_of marks next ≡ Acyclic → IsSearch g marks (set left top (get_or left top 0 - 1)) stack
    look acyclic =
        look_step g marks left stack top (get_or left top 0 - 1) (rw is top_below) h (omega (arith, a.some_left)) (λ w. h.acyclic next acyclic (rw a.is w))

    -- a new successor is put on the stack
    pub go_on : IsSearch g (set marks next OnStack) left (stack ++ next ∷ [])
    go_on = push_step g marks left stack next a.inside h (λ _. rw (← is) a.edge)

    -- a successor that reaches a cycle, or is on the stack
    pub cyclic : (m : Mark) → mark_of marks next ≡ m → (m ≡ Unvisited → ⊥) → (m ≡ Acyclic → ⊥) → All (ReachesCycle (HasEdge g)) stack
    cyclic Unvisited at new acyclic = absurd (new refl)
    cyclic Acyclic at new acyclic = absurd (acyclic refl)
    cyclic OnStack at new acyclic = all_reach g marks left stack h (back_edge g marks left stack next h (h.on_stack next at) (rw (← is) a.edge))
    cyclic Cyclic at new acyclic =
        all_reach g marks left stack h (reaches_back (HasEdge g) (get_or stack (length stack - 1) 0) next (rw (← is) a.edge) (h.cyclic next at))

-- a row of the graph is a row of the code
pub row_at :
    (rows : List (Vec ℕ Global)) (i : ℕ) (row : Vec ℕ Global) → i < length rows → row ≡ get_or rows i row → row_of (graph_of rows) i ≡ row.items
row_at rows i row lt e = get_or-map (λ r. r.items) rows i row [] lt ∙ ap (λ r. r.items) (sym e)

-- each successor is a node
pub inside_row : (g : List (List ℕ)) (node k d : ℕ) → IsGraph g → node < length g → k < length (row_of g node) → get_or (row_of g node) k d < length g
inside_row g node k d ok lt in' = (ok node [] lt).1 k d in'

is_cyclic-from : (m : Mark) → is_cyclic m ≡ true → m ≡ Cyclic
is_cyclic-from Unvisited e = absurd cc
is_cyclic-from OnStack e = absurd cc
is_cyclic-from Acyclic e = absurd cc
is_cyclic-from Cyclic e = refl

is_cyclic-not : (m : Mark) → is_cyclic m ≡ false → m ≡ Cyclic → ⊥
is_cyclic-not m e f = let h : is_cyclic m ≡ true = ap is_cyclic f in absurd cc

-- the marks tell which nodes reach a cycle
pub tells : (g : List (List ℕ)) (marks : List Mark) → AllAreMarked g marks → TellsCycles g (map is_cyclic marks)
tells g marks h =
    let at : (v : ℕ) → v < length g → get_or (map is_cyclic marks) v false ≡ is_cyclic (mark_of marks v) =
    λ v lt. get_or-map is_cyclic marks v Unvisited false (rw h.sized lt) in
    let closed : (v : ℕ) → v < length g → IsInClosedSet (HasEdge g) v → get_or (map is_cyclic marks) v false ≡ true =
    λ v lt w. elim (cases_Bool (get_or (map is_cyclic marks) v false)) [
      | inl t ↦ t
      | inr f ↦ absurd (h.acyclic v lt (is_cyclic-not (mark_of marks v) (sym (at v lt) ∙ f)) w)
    ] in
    let cycle : (v : ℕ) → v < length g → get_or (map is_cyclic marks) v false ≡ true → ReachesCycle (HasEdge g) v =
    λ v lt t. h.cyclic v (is_cyclic-from (mark_of marks v) (sym (at v lt) ∙ t)) in
    record {
      sized = length-map marks is_cyclic ∙ h.sized;
      cycles = λ v lt. (cycle v lt, λ r. closed v lt (closed_from_reaches (HasEdge g) v r));
      sets = λ v lt. (λ t. closed_from_reaches (HasEdge g) v (cycle v lt t), closed v lt);
    }
