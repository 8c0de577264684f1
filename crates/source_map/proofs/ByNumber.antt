-- The body of a fork is that of the statement with its number.
use Rattle.std.proofs.Common.{◌≡◌, ◌⊎◌, ℕ, zero, suc, ◌+◌, ◌-◌, ◌<◌, ◌≤◌, Option, Some, None, List, ◌∷◌, ◌++◌, length, get_or, refl, sym, ap, ◌∙◌, arith, inl, inr}
use Rattle.std.specs.Borrow.{Bor}
use Rattle.std.specs.Prelude.{MatchOption, if◌then◌else◌, option_map}
use Rattle.std.specs.List.{slice_get}
use Rattle.std.proofs.lemmas.Bool.{cases_lt, ne_eqb}
use Rattle.std.proofs.lemmas.List.{length-map}
use Rattle.std.proofs.lemmas.Option.{slice_get-get_or, slice_get-map, slice_get_past}
use Rattle.armus_base.proofs.Lists.{slice_get-append, slice_get-behind}
use Rattle.pl_syntax.specs.declared.tree.Body.{Body}
use Rattle.pl_syntax.specs.declared.tree.Stmt.{Stmt}
use Rattle.pl_syntax.specs.Tree.{Tree, count, done, fork, loop, plain}
use Rattle.pl_plan.specs.Unfolding.{Coming, a_fork, a_loop}
use Rattle.source_map.specs.Origins.{statement_in, written_statements}
use Rattle.source_map.specs.inside.Tables.{body_of, coming_of, kept_comings, fork_body, forked_body}
use Rattle.source_map.proofs.ForkBodies.{found_inside, fork_behind, fork_here, fork_inside, loop_behind, loop_inside}
use Rattle.source_map.proofs.WrittenStatements.{count_written}

-- the body of statement i of these, from 0 on
abbrev body_at : Tree → ℕ → Option Tree
body_at tree i = body_of (slice_get (written_statements tree) i)

-- behind a statement with a body, of which so many have been counted
module _ (c : Coming) (body rest : Tree) where
  inside : (i : ℕ) → i < count body → body_of (slice_get (c ∷ (written_statements body ++ written_statements rest)) (suc i)) ≡ body_at body i
  inside i lt = ap body_of (slice_get-append (written_statements body) (written_statements rest) i (let e = count_written body in omega arith))

  behind : (i : ℕ) → body_of (slice_get (c ∷ (written_statements body ++ written_statements rest)) (suc (count body + i))) ≡ body_at rest i
  behind i =
      ap (λ n. body_of (slice_get (written_statements body ++ written_statements rest) (n + i))) (sym (count_written body))
      ∙ ap body_of (slice_get-behind (written_statements body) (written_statements rest) i)

-- no fork has a number before the first
none_before : (tree : Tree) (n f : ℕ) → f < n → fork_body n tree f ≡ None
none_before tree n f lt = by (fork_body n tree f) refl
  where
    by : (o : Option Tree) → fork_body n tree f ≡ o → o ≡ None
    by None e = refl
    by (Some b) e = absurd (let h = found_inside tree b n f e in omega (arith, h.from, lt))

by_number : (tree : Tree) (n i : ℕ) → fork_body n tree (n + i) ≡ body_at tree i
by_number done n i = refl
by_number (plain s rest) n zero = none_before rest (n + 1) (n + 0) (omega arith)
by_number (plain s rest) n (suc i) = ap (fork_body (n + 1) rest) (let e : n + suc i ≡ n + 1 + i = omega arith in e) ∙ by_number rest (n + 1) i
by_number (fork x body rest) n zero = fork_here n (n + 0) x body rest (omega arith)
by_number (fork x body rest) n (suc i) = by (by_number body (n + 1) i) (λ j. by_number rest (n + 1 + count body) j) (cases_lt i (count body))
  where
    by :
        fork_body (n + 1) body (n + 1 + i) ≡ body_at body i → ((j : ℕ) → fork_body (n + 1 + count body) rest (n + 1 + count body + j) ≡ body_at rest j) →
        (i < count body) ⊎ (count body ≤ i) → fork_body n (fork x body rest) (n + suc i) ≡ body_at (fork x body rest) (suc i)
    by a b (inl lt) =
        fork_inside n (n + suc i) x body rest (λ e. omega (arith, e)) (omega (arith, lt))
        ∙ (ap (fork_body (n + 1) body) (let e : n + suc i ≡ n + 1 + i = omega arith in e) ∙ (a ∙ sym (inside (a_fork x body) body rest i lt)))
    by a b (inr le) =
        let e : n + suc i ≡ n + 1 + count body + (i - count body) = omega (arith, le) in
        fork_behind n (n + suc i) x body rest (omega (arith, le))
        ∙ (ap (fork_body (n + 1 + count body) rest) e ∙ (b (i - count body) ∙ (sym (behind (a_fork x body) body rest (i - count body))
        ∙ ap (λ m. body_at (fork x body rest) (suc m)) (let f : count body + (i - count body) ≡ i = omega (arith, le) in f))))
by_number (loop k body rest) n zero = none_here
  where
    none_here : fork_body n (loop k body rest) (n + 0) ≡ None
    none_here = loop_inside n (n + 0) k body rest (omega arith) ∙ none_before body (n + 1) (n + 0) (omega arith)
by_number (loop k body rest) n (suc i) = by (by_number body (n + 1) i) (λ j. by_number rest (n + 1 + count body) j) (cases_lt i (count body))
  where
    by :
        fork_body (n + 1) body (n + 1 + i) ≡ body_at body i → ((j : ℕ) → fork_body (n + 1 + count body) rest (n + 1 + count body + j) ≡ body_at rest j) →
        (i < count body) ⊎ (count body ≤ i) → fork_body n (loop k body rest) (n + suc i) ≡ body_at (loop k body rest) (suc i)
    by a b (inl lt) =
        loop_inside n (n + suc i) k body rest (omega (arith, lt))
        ∙ (ap (fork_body (n + 1) body) (let e : n + suc i ≡ n + 1 + i = omega arith in e) ∙ (a ∙ sym (inside a_loop body rest i lt)))
    by a b (inr le) =
        let e : n + suc i ≡ n + 1 + count body + (i - count body) = omega (arith, le) in
        loop_behind n (n + suc i) k body rest (omega (arith, le))
        ∙ (ap (fork_body (n + 1 + count body) rest) e ∙ (b (i - count body) ∙ (sym (behind a_loop body rest (i - count body))
        ∙ ap (λ m. body_at (loop k body rest) (suc m)) (let f : count body + (i - count body) ≡ i = omega (arith, le) in f))))

-- the body of the fork with this number
pub found_by_number : (whole : Tree) (f : ℕ) → (f ≡ 0 → ⊥) → forked_body whole f ≡ body_of (statement_in (written_statements whole) f)
found_by_number whole zero some = absurd (some refl)
found_by_number whole (suc i) some =
    ap (λ c. if c then Some whole else fork_body 1 whole (suc i)) (ne_eqb (suc i) 0 some)
    ∙ (ap (fork_body 1 whole) (let e : suc i ≡ 1 + i = omega arith in e) ∙ by_number whole 1 i)

-- the same, as it was found
pub body_is :
    (whole : Tree) (statements : List Coming) (f : ℕ) (c : Coming) (o : Option Tree) → (f ≡ 0 → ⊥) → statements ≡ written_statements whole →
    Some c ≡ statement_in statements f → o ≡ body_of (Some c) → forked_body whole f ≡ o
body_is whole statements f c o some are is found =
    found_by_number whole f some ∙ (ap (λ cs. body_of (statement_in cs f)) (sym are) ∙ (ap body_of (sym is) ∙ sym found))

pub no_body :
    (whole : Tree) (statements : List Coming) (f : ℕ) → (f ≡ 0 → ⊥) → statements ≡ written_statements whole → None ≡ statement_in statements f →
    forked_body whole f ≡ None
no_body whole statements f some are is =
    found_by_number whole f some ∙ (ap (λ cs. body_of (statement_in cs f)) (sym are) ∙ ap body_of (sym is))

-- a statement that is kept
module _ (rows : List (Bor Stmt)) where
  pub statement_is :
      (n : ℕ) (row : Bor Stmt) → (n ≡ 0 → ⊥) → n ≤ length rows → row ≡ get_or rows (n - 1) row → Some (coming_of row.now) ≡ statement_in (kept_comings rows) n
  statement_is zero row some few is = absurd (some refl)
  statement_is (suc i) row some few is =
      let there : slice_get rows i ≡ Some row = slice_get-get_or rows i row (omega (arith, few)) ∙ ap Some (ap (λ j. get_or rows j row) (let e : i ≡ suc i - 1 = omega arith in e) ∙ sym is) in
      sym (slice_get-map (λ (r : Bor Stmt). coming_of r.now) rows i ∙ ap (option_map (λ (r : Bor Stmt). coming_of r.now)) there)

  pub no_statement : (n : ℕ) → length rows < n → None ≡ statement_in (kept_comings rows) n
  no_statement zero past = absurd (omega arith)
  no_statement (suc i) past = sym (slice_get_past (kept_comings rows) i (let e = length-map rows (λ (r : Bor Stmt). coming_of r.now) in omega (arith, e, past)))

-- what was found, as a body or none
pub found_body : (o : Option (Bor Body)) (z : Option Tree) → z ≡ option_map (λ (b : Bor Body). b.now) o → MatchOption o (z ≡ None) (λ b. z ≡ Some b.now)
found_body None z e = e
found_body (Some b) z e = e
