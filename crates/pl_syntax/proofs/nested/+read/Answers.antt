use Rattle.std.proofs.Common.{◌≡◌, ◌+◌, ◌<◌, ◌≤◌, length, refl, sym, ◌∙◌, arith, false, [], ◌∷◌, ◌++◌, sum_by}
use Rattle.std.proofs.lemmas.List.Sums.{sum_by_push}
use Rattle.std.proofs.lemmas.Result.{err_from_is_err_and}
use Rattle.pl_syntax.specs.inside.Seen.{token_of}
use Rattle.pl_syntax.specs.inside.Reading.{ends_list}
use Rattle.pl_syntax.specs.inside.Statements.{statement_at}
use Rattle.pl_syntax.proofs.Fronts.{progress}
use Rattle.pl_syntax.proofs.Leaves.{opened_ok}
use Rattle.pl_syntax.proofs.Turns.{begins, fails_front, stops, fails_in, goes_on}
use Rattle.pl_syntax.proofs.nested.+read.Goals as goal

pub statement_at-overflow_add-result : goal.statement_at-overflow_add-result
statement_at-overflow_add-result g t c =
    let o = opened_ok c.args.scan c.args.depth c.in_ok-begun.rest.now c.in_ok-open-in-Head.open.now (sym c.in_ok-open-in-Head.ensures.exact) in
    let shorter = progress _ _ _ _ o.0 refl in
    let few = c.in_ok-items-in-Head.ensures.few in
    let longer = c.in_ok-begun.ensures.no_longer in
    let within = c.requires.within in
    let small = c.requires.small in
    omega arith

pub statements_at-overflow_add-statements : goal.statements_at-overflow_add-statements
statements_at-overflow_add-statements g t c =
    let goes : ends_list (token_of c.in_ok-token.token) ≡ false = sym c.ends_list.ensures ∙ c.if-ends_list.false in
    let shorter = progress _ _ _ _ (sym c.in_ok-token.ensures.exact) goes in
    let few = c.in_ok-statement.ensures.few in
    let before = c.loop-items.invariant.2 in
    let within = c.requires.within in
    let small = c.requires.small in
    omega arith

pub statements_at-loop-items-init : goal.statements_at-loop-items-init
statements_at-loop-items-init g t c =
    rw c.new-items.ensures.items (begins _ ends_list (statement_at g.S.Statement.spoken) c.args.scan c.args.depth c.args.text.now, refl, omega arith)

pub statements_at-returns-in_err-token-clause-exact : goal.statements_at-returns-in_err-token-clause-exact
statements_at-returns-in_err-token-clause-exact g t c = λ n h.
    let p = err_from_is_err_and c.from_residual.result c.from_residual.ensures.1 in
    rw (p.1, p.2) (fails_front _ ends_list (statement_at g.S.Statement.spoken) _ _ _ _ _ c.loop-items.invariant.0 _ n h (sym c.in_err-token.ensures.exact))

pub statements_at-returns-then-ends_list-clause-exact : goal.statements_at-returns-then-ends_list-clause-exact
statements_at-returns-then-ends_list-clause-exact g t c = λ n h.
    stops _ ends_list (statement_at g.S.Statement.spoken) _ _ _ _ _ c.loop-items.invariant.0 (token_of c.in_ok-token.token) c.in_ok-token.after.now n h (sym c.in_ok-token.ensures.exact)
    (sym c.ends_list.ensures ∙ c.if-ends_list.true)

pub statements_at-returns-in_err-statement-clause-exact : goal.statements_at-returns-in_err-statement-clause-exact
statements_at-returns-in_err-statement-clause-exact g t c = λ n h.
    let p = err_from_is_err_and c.from_residual-in_err-statement.result c.from_residual-in_err-statement.ensures.1 in
    let goes : ends_list (token_of c.in_ok-token.token) ≡ false = sym c.ends_list.ensures ∙ c.if-ends_list.false in
    let here = sym c.in_ok-token.ensures.exact in
    rw (p.1, p.2) (fails_in _ ends_list (statement_at g.S.Statement.spoken) _ _ _ _ _ c.loop-items.invariant.0 (token_of c.in_ok-token.token) c.in_ok-token.after.now here goes
    (progress _ _ _ _ here goes) c.in_err-statement.field-0.0 c.in_err-statement.ensures.exact n h)

pub statements_at-loop-items-smaller : goal.statements_at-loop-items-smaller
statements_at-loop-items-smaller g t c =
    let goes : ends_list (token_of c.in_ok-token.token) ≡ false = sym c.ends_list.ensures ∙ c.if-ends_list.false in
    let p : length c.in_ok-token.after.now < length c.loop-items.rest.now = progress _ _ _ _ (sym c.in_ok-token.ensures.exact) goes in
    let q : length c.in_ok-statement.left.now ≤ length c.in_ok-token.after.now = c.in_ok-statement.ensures.no_longer in
    omega arith

pub statements_at-loop-items-preserved : goal.statements_at-loop-items-preserved
statements_at-loop-items-preserved g t c =
    let goes : ends_list (token_of c.in_ok-token.token) ≡ false = sym c.ends_list.ensures ∙ c.if-ends_list.false in
    let here = sym c.in_ok-token.ensures.exact in
    let count = g.S.Statement.count in
    let items = c.loop-items.items.items in
    let shorter = progress _ _ _ _ here goes in
    let more : sum_by count (items ++ c.in_ok-statement.statement ∷ []) ≡ sum_by count items + count c.in_ok-statement.statement = sum_by_push count items c.in_ok-statement.statement in
    let one : c.in_ok-statement.more ≡ count c.in_ok-statement.statement = c.in_ok-statement.ensures.counted in
    let few : c.in_ok-statement.more + length c.in_ok-statement.left.now ≤ length c.in_ok-token.after.now + 1 = c.in_ok-statement.ensures.few in
    let all = c.loop-items.invariant.1 in
    let before = c.loop-items.invariant.2 in
    rw c.in_ok-push.ensures.items (
      goes_on _ ends_list (statement_at g.S.Statement.spoken) _ _ _ _ _ c.loop-items.invariant.0 (token_of c.in_ok-token.token) c.in_ok-token.after.now here goes shorter
          c.in_ok-statement.statement c.in_ok-statement.left.now c.in_ok-statement.ensures.no_longer c.in_ok-statement.ensures.exact,
      omega arith,
      omega arith,
    )
