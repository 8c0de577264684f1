use Rattle.report.proofs.DeadExtend.{some_dead_extend}
use Rattle.report.proofs.laws.some_dead_extend.Goals as goal

pub returns : goal.returns
returns c = some_dead_extend
