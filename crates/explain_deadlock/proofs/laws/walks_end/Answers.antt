use Rattle.explain_deadlock.proofs.ForkersWait.{chains_end, forkers_to_come}
use Rattle.explain_deadlock.proofs.laws.walks_end.Goals as goal

pub returns : goal.returns
returns c = record { forkers = forkers_to_come; chains = chains_end }
