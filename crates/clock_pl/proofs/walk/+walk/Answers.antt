use Rattle.std.proofs.Common.{◌+◌, Err, ap, sym, subst, ◌∙◌}
use Rattle.std.proofs.lemmas.Result.{err_from_is_err_and}
use Rattle.clock_semantics.specs.Unfolding.{comings_of}
use Rattle.clock_pl.specs.inside.ClockCheckerSteps.{checker_come_all, checker_statement, checker_visit}
use Rattle.clock_pl.proofs.Comings.{StatementsDone, gives_err, gives_same, no_statement, no_turn, statement_comes, statement_done, statement_failed, statement_fails, statements_done, turn_comes, turn_done, turn_failed, turn_fails}
use Rattle.clock_pl.proofs.walk.+walk.Goals as goal

pub walk_body-loop-stmt-init : goal.walk_body-loop-stmt-init
walk_body-loop-stmt-init t c = no_statement c.args.before c.as_slice-stmt-items.result.now c.args.checker.now

pub walk_body-returns-in_err-walk_statement : goal.walk_body-returns-in_err-walk_statement
walk_body-returns-in_err-walk_statement t c =
    let p = err_from_is_err_and c.from_residual.result c.from_residual.ensures.1 in
    gives_err c.in_err-walk_statement.field-0.0 c.from_residual.result _ _ c.walk_statement.new.checker c.walk_statement.new.checker (p.1 ∙ ap Err p.2)
    (λ f e. ap (λ z. checker_come_all (comings_of (c.args.before + 1) z) c.args.checker.now) (sym c.as_slice-stmt-items.ensures)
    ∙ statement_failed c.args.before c.as_slice-stmt-items.result.now c.args.checker.now c.loop-stmt.stmt-index c.loop-stmt.at c.loop-stmt.checker
    c.loop-stmt.invariant c.stmt-item.result c.loop-stmt-test.true c.stmt-item.is f e)
    c.in_err-walk_statement.ensures

pub walk_body-loop-stmt-preserved : goal.walk_body-loop-stmt-preserved
walk_body-loop-stmt-preserved t c =
    subst (λ n. StatementsDone c.args.before c.as_slice-stmt-items.result.now c.args.checker.now (c.loop-stmt.stmt-index + 1) (c.loop-stmt.at + n)
    c.walk_statement.new.checker) (sym c.statements-at.ensures)
    (statement_done c.args.before c.as_slice-stmt-items.result.now c.args.checker.now c.loop-stmt.stmt-index c.loop-stmt.at c.loop-stmt.checker
    c.loop-stmt.invariant c.stmt-item.result c.loop-stmt-test.true c.stmt-item.is c.walk_statement.new.checker c.in_ok-walk_statement.ensures)

pub walk_body-returns : goal.walk_body-returns
walk_body-returns t c =
    ap (λ z. checker_come_all (comings_of (c.args.before + 1) z) c.args.checker.now) (sym c.as_slice-stmt-items.ensures)
    ∙ statements_done c.args.before c.as_slice-stmt-items.result.now c.args.checker.now c.loop-stmt.stmt-index c.loop-stmt.at c.loop-stmt.checker
    c.loop-stmt.invariant c.loop-stmt-test.false

pub walk_statement-returns-in_err-count_visit : goal.walk_statement-returns-in_err-count_visit
walk_statement-returns-in_err-count_visit t c =
    let p = err_from_is_err_and c.from_residual.result c.from_residual.ensures.1 in
    gives_err c.in_err-count_visit.field-0.0 c.from_residual.result (checker_visit (c.args.before + 1) c.args.checker.now) _
    c.count_visit.new.checker c.count_visit.new.checker (p.1 ∙ ap Err p.2)
    (λ f e. statement_fails c.args.stmt.now (c.args.before + 1) c.args.checker.now f e) c.in_err-count_visit.ensures

pub walk_statement-returns : goal.walk_statement-returns
walk_statement-returns t c =
    gives_same c.act.result (checker_statement (c.args.before + 1) c.args.stmt.now c.count_visit.new.checker) _ c.act.new.checker
    (statement_comes c.args.stmt.now (c.args.before + 1) c.args.checker.now c.count_visit.new.checker c.in_ok-count_visit.ensures) c.act.ensures

pub walk_turns-loop-init : goal.walk_turns-loop-init
walk_turns-loop-init t c = no_turn c.args.n c.args.body.now c.args.checker.now

pub walk_turns-returns-in_err-count_visit : goal.walk_turns-returns-in_err-count_visit
walk_turns-returns-in_err-count_visit t c =
    let p = err_from_is_err_and c.from_residual.result c.from_residual.ensures.1 in
    gives_err c.in_err-count_visit.field-0.0 c.from_residual.result (checker_visit c.args.n c.loop.checker) _
    c.count_visit.new.checker c.count_visit.new.checker (p.1 ∙ ap Err p.2)
    (λ f e. turn_failed c.args.n c.args.body.now c.args.checker.now c.loop.counter c.loop.checker c.loop.invariant c.args.turns c.loop-test.true f
    (turn_fails c.args.n c.args.body.now c.loop.checker f e)) c.in_err-count_visit.ensures

pub walk_turns-returns-in_err-walk_body : goal.walk_turns-returns-in_err-walk_body
walk_turns-returns-in_err-walk_body t c =
    let p = err_from_is_err_and c.from_residual-in_err-walk_body.result c.from_residual-in_err-walk_body.ensures.1 in
    gives_err c.in_err-walk_body.field-0.0 c.from_residual-in_err-walk_body.result
    (checker_come_all (comings_of (c.args.n + 1) c.args.body.now) c.count_visit.new.checker) _
    c.walk_body.new.checker c.walk_body.new.checker (p.1 ∙ ap Err p.2)
    (λ f e. turn_failed c.args.n c.args.body.now c.args.checker.now c.loop.counter c.loop.checker c.loop.invariant c.args.turns c.loop-test.true f
    (turn_comes c.args.n c.args.body.now c.loop.checker c.count_visit.new.checker c.in_ok-count_visit.ensures ∙ e)) c.in_err-walk_body.ensures

pub walk_turns-loop-preserved : goal.walk_turns-loop-preserved
walk_turns-loop-preserved t c =
    turn_done c.args.n c.args.body.now c.args.checker.now c.loop.counter c.loop.checker c.loop.invariant c.walk_body.new.checker
    (turn_comes c.args.n c.args.body.now c.loop.checker c.count_visit.new.checker c.in_ok-count_visit.ensures ∙ c.in_ok-walk_body.ensures)
