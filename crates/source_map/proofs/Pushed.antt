-- The statements that make something, pushed along a body.
use Rattle.std.proofs.Common.{◌≡◌, ℕ, zero, suc, ◌+◌, ◌<◌, ◌≤◌, false, List, ◌∷◌, ◌++◌, length, drop, get_or, refl, sym, ap, subst, ◌∙◌, arith, append_assoc, append-nil}
use Rattle.std.proofs.lemmas.List.{drop_all}
use Rattle.armus_base.specs.Pieces.{times}
use Rattle.pl_syntax.specs.declared.tree.Stmt.{Stmt}
use Rattle.pl_syntax.specs.Tree.{Tree, count, done}
use Rattle.pl_syntax.specs.calls.Bodies.{followed_by, tree_of}
use Rattle.pl_plan.specs.Unfolding.{a_turn, visit, visits_of}
use Rattle.source_map.specs.Origins.{statements_where}
use Rattle.source_map.specs.inside.Tables.{makes_it}
use Rattle.source_map.specs.declared.making.MadeKind.{MadeKind}
use Rattle.source_map.specs.declared.making.MadeKind.TheVariants.{APhaser, ATask, AnOp}
use Rattle.source_map.proofs.Statements.{IsAt, at_next, at_start, at_within, visits_next, where_append, where_turns}

-- no turn makes anything of its own
pub no_turn_makes : (made : MadeKind) → makes_it made a_turn ≡ false
no_turn_makes APhaser = refl
no_turn_makes ATask = refl
no_turn_makes AnOp = refl

-- ---- turns

times_more : (k : ℕ) (xs : List ℕ) → times k xs ++ xs ≡ xs ++ times k xs
times_more zero xs = sym (append-nil xs)
times_more (suc k) xs = append_assoc xs (times k xs) xs ∙ ap (λ ys. xs ++ ys) (times_more k xs)

module _ (made : MadeKind) (body : Tree) (n k at : ℕ) (old : List ℕ) where
  pub turn_next : (i : ℕ) (out next : List ℕ) → out ≡ old ++ times i (statements_where (makes_it made) (visits_of n body)) →
      next ≡ out ++ statements_where (makes_it made) (visits_of n body) → next ≡ old ++ times (i + 1) (statements_where (makes_it made) (visits_of n body))
  turn_next i out next so pushed =
      let xs = statements_where (makes_it made) (visits_of n body) in
      pushed ∙ ap (λ ys. ys ++ xs) so ∙ append_assoc old (times i xs) xs ∙ ap (λ ys. old ++ ys) (times_more i xs)
      ∙ ap (λ m. old ++ times m xs) (let z : suc i ≡ i + 1 = omega arith in z)

  pub turns_end : (i : ℕ) (out : List ℕ) → i ≡ k → out ≡ old ++ times i (statements_where (makes_it made) (visits_of n body)) →
      out ≡ old ++ statements_where (makes_it made) (times k (visit at a_turn ∷ visits_of n body))
  turns_end i out all so =
      so ∙ ap (λ m. old ++ times m (statements_where (makes_it made) (visits_of n body))) all
      ∙ ap (λ ys. old ++ ys) (sym (where_turns (makes_it made) k at (visits_of n body) (no_turn_makes made)))

-- ---- statements one after the other

abbrev made_from : MadeKind → ℕ → Tree → List ℕ
made_from made n tree = statements_where (makes_it made) (visits_of n tree)

-- what was pushed, and what the statements from the j-th on make, is what the body makes
pub record PushedSoFar (made : MadeKind) (items : List Stmt) (j : ℕ) (body : Tree) (n at : ℕ) (old out : List ℕ) : Type 0 where
  pub numbers : IsAt items j body n at
  pub so_far : out ++ statements_where (makes_it made) (visits_of at (tree_of (drop j items))) ≡ old ++ statements_where (makes_it made) (visits_of n body)

module _ (made : MadeKind) where
  pub pushed_start : (items : List Stmt) (body : Tree) (n : ℕ) (old : List ℕ) → tree_of items ≡ body → PushedSoFar made items 0 body n n old old
  pushed_start items body n old e = record { numbers = at_start items body n e; so_far = ap (λ b. old ++ made_from made n b) e }

  module _ (items : List Stmt) (j : ℕ) (body : Tree) (n at : ℕ) (old out : List ℕ) (q : Stmt) (lt : j < length items) (is : q ≡ get_or items j q)
      (h : PushedSoFar made items j body n at old out) where
    pub pushed_within : at + count (followed_by q done) ≤ n + count body
    pushed_within = at_within items j body n at q lt is h.numbers

    pub pushed_next : (many : ℕ) → many ≡ count (followed_by q done) → (next : List ℕ) → next ≡ out ++ statements_where (makes_it made) (visits_of at (followed_by q done)) →
        PushedSoFar made items (j + 1) body n (at + many) old next
    pushed_next many all next e =
        let here = made_from made at (followed_by q done) in
        let behind = made_from made (at + count (followed_by q done)) (tree_of (drop (j + 1) items)) in
        subst (λ m. PushedSoFar made items (j + 1) body n (at + m) old next) (sym all) (record {
          numbers = at_next items j body n at q lt is h.numbers;
          so_far = ap (λ ys. ys ++ behind) e ∙ append_assoc out here behind
              ∙ ap (λ ys. out ++ ys) (sym (ap (statements_where (makes_it made)) (visits_next items j q lt is at)
              ∙ where_append (makes_it made) (visits_of at (followed_by q done)) (visits_of (at + count (followed_by q done)) (tree_of (drop (j + 1) items)))))
              ∙ h.so_far;
        })

  pub pushed_end : (items : List Stmt) (j : ℕ) (body : Tree) (n at : ℕ) (old out : List ℕ) → length items ≤ j → PushedSoFar made items j body n at old out →
      out ≡ old ++ statements_where (makes_it made) (visits_of n body)
  pushed_end items j body n at old out le h =
      sym (append-nil out) ∙ ap (λ (ts : List Stmt). out ++ made_from made at (tree_of ts)) (sym (drop_all j items le)) ∙ h.so_far
