-- The part of a body from a statement on.
use Rattle.std.proofs.Common.{◌≡◌, ℕ, ◌+◌, ◌<◌, List, [], ◌∷◌, length, drop, get_or, sum_by, refl, sym, ap, ◌∙◌, arith}
use Rattle.std.proofs.lemmas.List.{drop_more}
use Rattle.std.proofs.lemmas.List.Sums.{sum_by-cons}
use Rattle.pl_syntax.specs.declared.tree.Stmt.{Stmt}
use Rattle.pl_syntax.specs.declared.tree.Stmt.TheVariants as s
use Rattle.pl_syntax.specs.Tree.{Tree, done, count}
use Rattle.pl_syntax.specs.calls.Bodies.{followed_by, tree_of}
use Rattle.pl_syntax.specs.inside.PlReading.{stmt_count}

count_first : (q : Stmt) (p : Tree) → count (followed_by q p) ≡ count (followed_by q done) + count p
count_first (s.NewTask x) p = omega arith
count_first (s.NewPhaser x) p = omega arith
count_first (s.Reg x y) p = omega arith
count_first (s.Dereg x) p = omega arith
count_first (s.Adv x) p = omega arith
count_first (s.Await x off) p = omega arith
count_first s.Skip p = omega arith
count_first (s.Fork x i) p = omega arith
count_first (s.Loop n i) p = omega arith

pub counts : (items : List Stmt) (i : ℕ) (q : Stmt) → i < length items → q ≡ get_or items i q →
    count (tree_of (drop i items)) ≡ count (followed_by q done) + count (tree_of (drop (i + 1) items))
counts items i q lt is =
    ap count (ap tree_of (drop_more items i q lt) ∙ ap (λ (x : Stmt). followed_by x (tree_of (drop (i + 1) items))) (sym is)) ∙ count_first q (tree_of (drop (i + 1) items))

-- all statements of a list, each with its body
pub count_is : (items : List Stmt) → count (tree_of items) ≡ sum_by stmt_count items
count_is [] = refl
count_is (s ∷ ss) = count_first s (tree_of ss) ∙ ap (λ n. stmt_count s + n) (count_is ss) ∙ sym (sum_by-cons stmt_count s ss)
