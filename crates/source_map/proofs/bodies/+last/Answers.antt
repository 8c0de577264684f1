use Rattle.std.proofs.Common.{arith, ◌∙◌, sym, ap}
use Rattle.pl_syntax.specs.declared.tree.Stmt.{Stmt}
use Rattle.pl_syntax.specs.calls.Bodies.{followed_by}
use Rattle.pl_syntax.specs.Tree.{done}
use Rattle.pl_plan.specs.Unfolding.{visits_of}
use Rattle.source_map.specs.Origins.{last_or}
use Rattle.source_map.proofs.ForkBodies.{last_end, last_next, last_start, last_turn, last_within, numbers_of}
use Rattle.source_map.proofs.Statements.{at_fewer}
use Rattle.source_map.proofs.bodies.+last.Goals as goal

pub last_of_body-loop-stmt-init : goal.last_of_body-loop-stmt-init
last_of_body-loop-stmt-init t c = last_start _ _ _ _ c.as_slice-stmt-items.ensures

pub last_of_body-last_of_statement-last-requires : goal.last_of_body-last_of_statement-last-requires
last_of_body-last_of_statement-last-requires t c =
    let few = at_fewer _ _ _ _ _ c.stmt-item.result c.loop-stmt-test.true c.stmt-item.is c.loop-stmt.invariant.numbers in
    let within = last_within _ _ _ _ _ _ _ c.stmt-item.result c.loop-stmt-test.true c.stmt-item.is c.loop-stmt.invariant in
    (omega (arith, few), omega (arith, within, c.requires))

pub last_of_body-loop-stmt-preserved : goal.last_of_body-loop-stmt-preserved
last_of_body-loop-stmt-preserved t c =
    last_next _ _ _ _ _ _ _ c.stmt-item.result c.loop-stmt-test.true c.stmt-item.is c.loop-stmt.invariant c.statements_in-at.result
    c.statements_in-at.ensures _ (c.last_of_statement-last.ensures c.loop-stmt.last)

pub last_of_body-returns : goal.last_of_body-returns
last_of_body-returns t c = last_end _ _ _ _ _ _ _ c.loop-stmt-test.false c.loop-stmt.invariant

pub last_of_statement-returns-else-k-eq0 : goal.last_of_statement-returns-else-k-eq0
last_of_statement-returns-else-k-eq0 t c = λ before.
    last_turn c.in-Loop.k before c.args.n c.last_of_body.result c.in-Loop.body c.if-k-eq0.false c.last_of_body.ensures
    ∙ ap (λ (q : Stmt). last_or before (numbers_of (visits_of c.args.n (followed_by q done)))) (sym c.in-Loop.is)
