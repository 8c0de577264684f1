-- Whether a body is steady, statement by statement.
use Rattle.std.proofs.Common.{◌≡◌, ℕ, ◌+◌, ◌<◌, ◌≤◌, true, false, List, length, drop, get_or, refl, sym, ap, arith, ◌∙◌}
use Rattle.std.specs.Prelude.{Bool, ◌&&◌}
use Rattle.std.proofs.lemmas.List.{drop_more}
use Rattle.pl_syntax.specs.declared.tree.Stmt.{Stmt}
use Rattle.pl_syntax.specs.declared.tree.Stmt.TheVariants as s
use Rattle.pl_syntax.specs.Tree.{Tree, count, done}
use Rattle.pl_syntax.specs.calls.Bodies.{followed_by, tree_of}
use Rattle.pl_syntax.proofs.Parts.{counts}
use Rattle.pl_plan.specs.FoldedOps.{is_steady}

and_true : (a : Bool) → (a && true) ≡ a
and_true true = refl
and_true false = refl

-- a loop alone
pub steady_loop : (body : Tree) → is_steady body ≡ (is_steady body && true)
steady_loop body = sym (and_true (is_steady body))

steady_first : (q : Stmt) (rest : Tree) → is_steady (followed_by q rest) ≡ (is_steady (followed_by q done) && is_steady rest)
steady_first (s.NewTask x) rest = refl
steady_first (s.NewPhaser x) rest = refl
steady_first (s.Reg x y) rest = refl
steady_first (s.Dereg x) rest = refl
steady_first (s.Adv x) rest = refl
steady_first (s.Await x off) rest = refl
steady_first s.Skip rest = refl
steady_first (s.Fork x body) rest = refl
steady_first (s.Loop k body) rest = ap (λ a. a && is_steady rest) (steady_loop body)

at_next : (items : List Stmt) (i : ℕ) (q : Stmt) → i < length items → q ≡ get_or items i q →
    is_steady (tree_of (drop i items)) ≡ (is_steady (followed_by q done) && is_steady (tree_of (drop (i + 1) items)))
at_next items i q lt is =
    ap is_steady (ap tree_of (drop_more items i q lt) ∙ ap (λ (x : Stmt). followed_by x (tree_of (drop (i + 1) items))) (sym is)) ∙ steady_first q (tree_of (drop (i + 1) items))

-- behind i statements, all of them steady, the rest of the body decides
pub record SteadySoFar (items : List Stmt) (i : ℕ) (body : Tree) : Type 0 where
  pub same : is_steady (tree_of (drop i items)) ≡ is_steady body
  pub within : count (tree_of (drop i items)) ≤ count body

module _ (items : List Stmt) (i : ℕ) (body : Tree) (q : Stmt) (lt : i < length items) (is : q ≡ get_or items i q) (h : SteadySoFar items i body) where
  pub next_smaller : count (followed_by q done) ≤ count body
  next_smaller = omega (arith, counts items i q lt is, h.within)

  pub steady_next : is_steady (followed_by q done) ≡ true → SteadySoFar items (i + 1) body
  steady_next steady = record {
    same = sym (ap (λ a. a && is_steady (tree_of (drop (i + 1) items))) steady) ∙ sym (at_next items i q lt is) ∙ h.same;
    within = omega (arith, counts items i q lt is, h.within);
  }

  pub unsteady_next : is_steady (followed_by q done) ≡ false → false ≡ is_steady body
  unsteady_next unsteady = sym (ap (λ a. a && is_steady (tree_of (drop (i + 1) items))) unsteady) ∙ sym (at_next items i q lt is) ∙ h.same
