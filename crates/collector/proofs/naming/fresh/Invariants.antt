use Rattle.std.proofs.Common.{take}
use Rattle.collector.specs.inside.Names.{AreFresh}
use Rattle.collector.proofs.naming.fresh.Given as goal

abbrev pub invariant-loop-t : goal.invariant-loop-t
invariant-loop-t l = AreFresh l.names l.list (take l.t-index l.dead) l.all.items
