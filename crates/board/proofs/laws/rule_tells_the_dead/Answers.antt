use Rattle.armus_base.proofs.BoardRuns.{nobody_dead_at}
use Rattle.board.proofs.laws.rule_tells_the_dead.Goals as goal

pub returns-clause-nobody : goal.returns-clause-nobody
returns-clause-nobody c = λ plan s rule. nobody_dead_at plan rule.places rule.lock rule.checked rule.lawful

pub returns-clause-known : goal.returns-clause-known
returns-clause-known c = λ plan s rule j v t there known. known rule.places rule.lock rule.lawful (rule.views j v there.found there.live).far
