use Rattle.explain_facts.proofs.Forkers.{forkers_fork}
use Rattle.explain_facts.proofs.laws.forkers_fork.Goals as goal

pub returns : goal.returns
returns c = forkers_fork
