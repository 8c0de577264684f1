use Rattle.std.proofs.Common.{arith}
use Rattle.source_map.proofs.ByNumber.{statement_is}
use Rattle.source_map.proofs.bodies.statement_at.Goals as goal

pub returns : goal.returns
returns c =
    statement_is c.args.statements.now c.args.n c.index-statements-n.result c.if-n-eq0.false (let h = c.if-n-statements.false in omega (arith, h))
    c.index-statements-n.is
