-- The comings of a body statement by statement, and turn by turn.
use Rattle.std.proofs.Common.{◌≡◌, ℕ, zero, suc, ◌+◌, ◌<◌, List, [], ◌∷◌, ◌++◌, length, drop, get_or, sym, ap, ◌∙◌, arith, append_assoc, append-nil}
use Rattle.std.proofs.lemmas.List.{drop_more}
use Rattle.armus_base.specs.Pieces.{times}
use Rattle.clock_syntax.specs.declared.tree.ClockStmt.{ClockStmt}
use Rattle.clock_syntax.specs.declared.tree.ClockStmt.TheVariants as s
use Rattle.clock_syntax.specs.Trees.{ClockTree, advance, clock, clock_count, done, resume, skip}
use Rattle.clock_syntax.specs.Trees.{drop as dropped}
use Rattle.clock_syntax.specs.calls.Bodies.{clock_followed_by, clock_tree_of}
use Rattle.clock_semantics.specs.Unfolding.{ClockComing, a_close, a_finish, a_loop, a_plain, a_turn, an_async, coming, comings_of}

-- one turn more
pub times_more : (i : ℕ) (xs : List ClockComing) → times i xs ++ xs ≡ times (suc i) xs
times_more zero xs = sym (append-nil xs)
times_more (suc i) xs = append_assoc xs (times i xs) xs ∙ ap (λ z. xs ++ z) (times_more i xs)

-- the first statement, and what stands behind it
pub first_comings : (q : ClockStmt) (n : ℕ) (t : ClockTree) →
    comings_of n (clock_followed_by q t) ≡ comings_of n (clock_followed_by q done) ++ comings_of (n + clock_count (clock_followed_by q done)) t
first_comings (s.Clock x) n t = ap (λ m. coming n (a_plain (clock x)) ∷ comings_of m t) (let e : n + 1 ≡ n + (0 + 1) = omega arith in e)
first_comings (s.Advance x) n t = ap (λ m. coming n (a_plain (advance x)) ∷ comings_of m t) (let e : n + 1 ≡ n + (0 + 1) = omega arith in e)
first_comings (s.Resume x) n t = ap (λ m. coming n (a_plain (resume x)) ∷ comings_of m t) (let e : n + 1 ≡ n + (0 + 1) = omega arith in e)
first_comings (s.Drop x) n t = ap (λ m. coming n (a_plain (dropped x)) ∷ comings_of m t) (let e : n + 1 ≡ n + (0 + 1) = omega arith in e)
first_comings s.Skip n t = ap (λ m. coming n (a_plain skip) ∷ comings_of m t) (let e : n + 1 ≡ n + (0 + 1) = omega arith in e)
first_comings (s.Async xs body) n t =
    ap (λ m. coming n (an_async xs body) ∷ comings_of m t) (let e : n + 1 + clock_count body ≡ n + (clock_count body + 0 + 1) = omega arith in e)
first_comings (s.Finish body) n t =
    ap (λ m. coming n a_finish ∷ (comings_of (n + 1) body ++ (coming n a_close ∷ comings_of m t)))
    (let e : n + 1 + clock_count body ≡ n + (clock_count body + 0 + 1) = omega arith in e)
    ∙ ap (λ z. coming n a_finish ∷ z) (sym (append_assoc (comings_of (n + 1) body) (coming n a_close ∷ []) (comings_of (n + (clock_count body + 0 + 1)) t)))
first_comings (s.Loop k body) n t =
    ap (λ m. coming n a_loop ∷ (times k (coming n a_turn ∷ comings_of (n + 1) body) ++ comings_of m t))
    (let e : n + 1 + clock_count body ≡ n + (clock_count body + 0 + 1) = omega arith in e)
    ∙ ap (λ z. coming n a_loop ∷ (z ++ comings_of (n + (clock_count body + 0 + 1)) t)) (sym (append-nil (times k (coming n a_turn ∷ comings_of (n + 1) body))))

-- the comings from the j-th statement on
pub next_comings_of : (items : List ClockStmt) (j at : ℕ) (q : ClockStmt) → j < length items → q ≡ get_or items j q →
    comings_of at (clock_tree_of (drop j items))
    ≡ comings_of at (clock_followed_by q done) ++ comings_of (at + clock_count (clock_followed_by q done)) (clock_tree_of (drop (j + 1) items))
next_comings_of items j at q lt is =
    ap (λ ts. comings_of at (clock_tree_of ts)) (drop_more items j q lt ∙ ap (λ z. z ∷ drop (j + 1) items) (sym is))
    ∙ first_comings q at (clock_tree_of (drop (j + 1) items))
