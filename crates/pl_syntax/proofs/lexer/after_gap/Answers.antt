use Rattle.std.proofs.Common.{arith}
use Rattle.std.proofs.lemmas.Grind.{common_steps}
use Rattle.pl_syntax.proofs.lexer.after_gap.Goals as goal

pub loop-rest-preserved : goal.loop-rest-preserved
loop-rest-preserved c = grind (arith, common_steps)

pub loop-rest-preserved-in-47-rest-2 : goal.loop-rest-preserved-in-47-rest-2
loop-rest-preserved-in-47-rest-2 c = grind (arith, common_steps)

pub returns-in_default-clause-gap : goal.returns-in_default-clause-gap
returns-in_default-clause-gap c = grind (arith, common_steps)

pub returns-in_default-2-clause-gap : goal.returns-in_default-2-clause-gap
returns-in_default-2-clause-gap c = grind (arith, common_steps)
