-- The part of a body from a statement on.
use Rattle.std.proofs.Common.{◌≡◌, ℕ, ◌+◌, ◌<◌, List, [], ◌∷◌, length, drop, get_or, sum_by, refl, sym, ap, ◌∙◌, arith}
use Rattle.std.proofs.lemmas.List.{drop_more}
use Rattle.std.proofs.lemmas.List.Sums.{sum_by-cons}
use Rattle.clock_syntax.specs.declared.tree.ClockStmt.{ClockStmt}
use Rattle.clock_syntax.specs.declared.tree.ClockStmt.TheVariants as s
use Rattle.clock_syntax.specs.Trees.{ClockTree, done, clock_count}
use Rattle.clock_syntax.specs.calls.Bodies.{clock_followed_by, clock_tree_of}
use Rattle.clock_syntax.specs.inside.ClockReading.{clock_stmt_count}

pub clock_count_first : (q : ClockStmt) (p : ClockTree) →
    clock_count (clock_followed_by q p) ≡ clock_count (clock_followed_by q done) + clock_count p
clock_count_first (s.Clock x) p = omega arith
clock_count_first (s.Advance x) p = omega arith
clock_count_first (s.Resume x) p = omega arith
clock_count_first (s.Drop x) p = omega arith
clock_count_first s.Skip p = omega arith
clock_count_first (s.Async names i) p = omega arith
clock_count_first (s.Finish i) p = omega arith
clock_count_first (s.Loop n i) p = omega arith

pub clock_counts : (items : List ClockStmt) (i : ℕ) (q : ClockStmt) → i < length items → q ≡ get_or items i q →
    clock_count (clock_tree_of (drop i items)) ≡ clock_count (clock_followed_by q done) + clock_count (clock_tree_of (drop (i + 1) items))
clock_counts items i q lt is =
    ap clock_count (ap clock_tree_of (drop_more items i q lt)
    ∙ ap (λ (x : ClockStmt). clock_followed_by x (clock_tree_of (drop (i + 1) items))) (sym is))
    ∙ clock_count_first q (clock_tree_of (drop (i + 1) items))

-- all statements of a list, each with its body
pub clock_count_is : (items : List ClockStmt) → clock_count (clock_tree_of items) ≡ sum_by clock_stmt_count items
clock_count_is [] = refl
clock_count_is (s ∷ ss) = clock_count_first s (clock_tree_of ss) ∙ ap (λ n. clock_stmt_count s + n) (clock_count_is ss) ∙ sym (sum_by-cons clock_stmt_count s ss)
