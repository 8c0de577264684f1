use Rattle.monitor_members.proofs.PairSets.{put}
use Rattle.monitor_members.proofs.pairs.put_pair.Goals as goal

pub returns-clause-put : goal.returns-clause-put
returns-clause-put c = put c.args.pairs.now c.insert.new.self c.args.m c.args.k c.in_ok-insert.ensures.updates
