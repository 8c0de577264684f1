use Rattle.std.proofs.Common.{arith, ◌∙◌, sym, subst}
use Rattle.std.proofs.lemmas.Result.{on_ok_weaker}
use Rattle.pl_syntax.specs.Tree.{done}
use Rattle.pl_syntax.specs.calls.Bodies.{followed_by}
use Rattle.pl_plan.specs.inside.Flattening.{AddsSteps}
use Rattle.pl_plan.proofs.Adding.{flattened_more, adds_fork, adds_loop}
use Rattle.pl_plan.proofs.flatten.+flatten.Goals as goal

pub flatten_body-loop-stmt-preserved : goal.flatten_body-loop-stmt-preserved
flatten_body-loop-stmt-preserved t c =
    flattened_more c.args.names.now.keys c.loop-stmt.names.keys c.flatten_statement.new.names.keys c.args.steps.now.items c.loop-stmt.steps.items
    c.flatten_statement.new.steps.items c.as_slice-stmt-items.result.now c.loop-stmt.stmt-index c.stmt-item.result c.loop-stmt-test.true c.stmt-item.is
    c.loop-stmt.invariant c.in_ok-flatten_statement.ensures

pub flatten_statement-returns-in_ok-push-in-Fork : goal.flatten_statement-returns-in_ok-push-in-Fork
flatten_statement-returns-in_ok-push-in-Fork t c =
    on_ok_weaker c.flatten_body.result
    (λ adds. subst (λ z. AddsSteps c.args.names.now.keys c.flatten_body.new.names.keys c.args.steps.now.items c.flatten_body.new.steps.items
    (followed_by z done)) (sym c.in-Fork.is)
    (adds_fork c.args.names.now.keys _ c.flatten_body.new.names.keys c.args.steps.now.items _ c.flatten_body.new.steps.items c.in_ok-x-in-Fork.x c.in-Fork.x _ c.in-Fork.body
    c.in_ok-x-in-Fork.ensures.more c.in_ok-push-in-Fork.ensures (omega (arith, c.len.ensures, c.statements.ensures))
    (c.in_ok-x-in-Fork.ensures.found, c.in_ok-x-in-Fork.ensures.spelled ∙ c.as_bytes-in-Fork.ensures.bytes) adds))
    c.flatten_body.ensures

pub flatten_statement-returns-in_ok-push-in-Loop : goal.flatten_statement-returns-in_ok-push-in-Loop
flatten_statement-returns-in_ok-push-in-Loop t c =
    on_ok_weaker c.flatten_body-in-Loop.result
    (λ adds. subst (λ z. AddsSteps c.args.names.now.keys c.flatten_body-in-Loop.new.names.keys c.args.steps.now.items c.flatten_body-in-Loop.new.steps.items
    (followed_by z done)) (sym c.in-Loop.is)
    (adds_loop c.args.names.now.keys c.flatten_body-in-Loop.new.names.keys c.args.steps.now.items _ c.flatten_body-in-Loop.new.steps.items c.in-Loop.k _ _ c.in-Loop.body (omega arith)
    c.is_steady-steady.ensures c.in_ok-push-in-Loop.ensures (omega (arith, c.len-in-Loop.ensures, c.statements-in-Loop.ensures)) adds))
    c.flatten_body-in-Loop.ensures
