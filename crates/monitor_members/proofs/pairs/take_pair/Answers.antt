use Rattle.monitor_members.proofs.PairSets.{taken}
use Rattle.monitor_members.proofs.pairs.take_pair.Goals as goal

pub returns : goal.returns
returns c = taken c.args.pairs.now c.remove.new.self c.args.m c.args.k c.remove.ensures.updates
