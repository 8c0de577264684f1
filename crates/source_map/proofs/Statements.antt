-- The visits of statements, one after the other, and the statements of those that pass a test.
use Rattle.std.proofs.Common.{◌≡◌, ℕ, zero, suc, ◌+◌, ◌<◌, ◌≤◌, Bool, false, List, [], ◌∷◌, ◌++◌, length, map, drop, get_or, refl, sym, ap, ◌∙◌, arith, append-nil}
use Rattle.std.specs.Prelude.{filter, cond}
use Rattle.std.proofs.lemmas.List.{drop_more, map-append}
use Rattle.std.proofs.lemmas.List.Elements.{filter-append}
use Rattle.armus_base.specs.Pieces.{times}
use Rattle.pl_syntax.specs.declared.tree.Stmt.{Stmt}
use Rattle.pl_syntax.specs.declared.tree.Stmt.TheVariants as s
use Rattle.pl_syntax.specs.Tree.{Tree, count, done, loop}
use Rattle.pl_syntax.specs.calls.Bodies.{followed_by, tree_of}
use Rattle.pl_syntax.proofs.Parts.{counts}
use Rattle.pl_plan.specs.Unfolding.{Coming, Visit, a_loop, a_turn, visit, visits_of}
use Rattle.source_map.specs.Origins.{statements_where}

-- ---- lists of visits

pub where_append : (test : Coming → Bool) (xs ys : List Visit) → statements_where test (xs ++ ys) ≡ statements_where test xs ++ statements_where test ys
where_append test xs ys =
    ap (map (λ (m : Visit). m.statement)) (filter-append (λ (m : Visit). test m.coming) xs ys)
    ∙ map-append (λ (m : Visit). m.statement) (filter (λ (m : Visit). test m.coming) xs) (filter (λ (m : Visit). test m.coming) ys)

-- a visit that does not pass
pub where_not : (test : Coming → Bool) (m : Visit) (ms : List Visit) → test m.coming ≡ false → statements_where test (m ∷ ms) ≡ statements_where test ms
where_not test m ms none =
    ap (λ b. map (λ (v : Visit). v.statement) (cond b (m ∷ filter (λ (v : Visit). test v.coming) ms) (filter (λ (v : Visit). test v.coming) ms))) none

-- turns of a loop, which make nothing of their own
pub where_turns : (test : Coming → Bool) (k at : ℕ) (ms : List Visit) → test a_turn ≡ false →
    statements_where test (times k (visit at a_turn ∷ ms)) ≡ times k (statements_where test ms)
where_turns test zero at ms none = refl
where_turns test (suc k) at ms none =
    where_append test (visit at a_turn ∷ ms) (times k (visit at a_turn ∷ ms))
    ∙ ap (λ xs. xs ++ statements_where test (times k (visit at a_turn ∷ ms))) (where_not test (visit at a_turn) ms none)
    ∙ ap (λ xs. statements_where test ms ++ xs) (where_turns test k at ms none)

-- a loop alone
pub where_loop : (test : Coming → Bool) (k n : ℕ) (body : Tree) → test a_loop ≡ false →
    statements_where test (visits_of n (loop k body done)) ≡ statements_where test (times k (visit n a_turn ∷ visits_of (n + 1) body))
where_loop test k n body none =
    where_not test (visit n a_loop) (times k (visit n a_turn ∷ visits_of (n + 1) body) ++ []) none
    ∙ ap (statements_where test) (append-nil (times k (visit n a_turn ∷ visits_of (n + 1) body)))

-- ---- statements one after the other

-- a statement, and those after it
pub visits_first : (q : Stmt) (rest : Tree) (n : ℕ) → visits_of n (followed_by q rest) ≡ visits_of n (followed_by q done) ++ visits_of (n + count (followed_by q done)) rest
visits_first (s.NewTask x) rest n = refl
visits_first (s.NewPhaser x) rest n = refl
visits_first (s.Reg x y) rest n = refl
visits_first (s.Dereg x) rest n = refl
visits_first (s.Adv x) rest n = refl
visits_first (s.Await x off) rest n = refl
visits_first s.Skip rest n = refl
visits_first (s.Fork x body) rest n =
    let e : n + 1 + count body ≡ n + count (followed_by (s.Fork x body) done) = omega arith in
    ap (λ m. visits_of n (followed_by (s.Fork x body) done) ++ visits_of m rest) e
visits_first (s.Loop k body) rest n =
    let e : n + 1 + count body ≡ n + count (followed_by (s.Loop k body) done) = omega arith in
    let turns = times k (visit n a_turn ∷ visits_of (n + 1) body) in
    ap (λ xs. visit n a_loop ∷ xs)
    (ap (λ m. turns ++ visits_of m rest) e ∙ ap (λ xs. xs ++ visits_of (n + count (followed_by (s.Loop k body) done)) rest) (sym (append-nil turns)))

module _ (items : List Stmt) (i : ℕ) (q : Stmt) (lt : i < length items) (is : q ≡ get_or items i q) where
  pub rest_is : tree_of (drop i items) ≡ followed_by q (tree_of (drop (i + 1) items))
  rest_is = ap tree_of (drop_more items i q lt) ∙ ap (λ (x : Stmt). followed_by x (tree_of (drop (i + 1) items))) (sym is)

  -- the visits from this statement on
  pub visits_next : (at : ℕ) → visits_of at (tree_of (drop i items)) ≡
      visits_of at (followed_by q done) ++ visits_of (at + count (followed_by q done)) (tree_of (drop (i + 1) items))
  visits_next at = ap (visits_of at) rest_is ∙ visits_first q (tree_of (drop (i + 1) items)) at

-- ---- numbers of statements

-- the number of statement i of a body, of which the first one has number n
pub record IsAt (items : List Stmt) (i : ℕ) (body : Tree) (n at : ℕ) : Type 0 where
  pub after : n ≤ at
  pub total : at + count (tree_of (drop i items)) ≡ n + count body

pub at_start : (items : List Stmt) (body : Tree) (n : ℕ) → tree_of items ≡ body → IsAt items 0 body n n
at_start items body n e = record { after = omega arith; total = ap (λ (b : Tree). n + count b) e }

module _ (items : List Stmt) (i : ℕ) (body : Tree) (n at : ℕ) (q : Stmt) (lt : i < length items) (is : q ≡ get_or items i q) (h : IsAt items i body n at) where
  pub at_next : IsAt items (i + 1) body n (at + count (followed_by q done))
  at_next = record { after = omega (arith, h.after); total = omega (arith, counts items i q lt is, h.total) }

  -- the statement is no larger than the body
  pub at_fewer : count (followed_by q done) ≤ count body
  at_fewer = omega (arith, counts items i q lt is, h.total, h.after)

  -- the statement has its numbers within those of the body
  pub at_within : at + count (followed_by q done) ≤ n + count body
  at_within = omega (arith, counts items i q lt is, h.total)
