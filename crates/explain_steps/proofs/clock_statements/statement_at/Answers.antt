use Rattle.std.proofs.Common.{arith}
use Rattle.explain_steps.proofs.NotingParts.{part_is}
use Rattle.explain_steps.proofs.clock_statements.statement_at.Goals as goal

pub returns : goal.returns
returns c =
    part_is c.args.statements.now c.args.n c.index-statements-n.result c.if-n-eq0.false (let h = c.if-n-statements.false in omega (arith, h))
    c.index-statements-n.is
