use Rattle.std.proofs.Common.{◌<◌, ◌-◌, length}
use Rattle.adaptive.proofs.choice.is_left_early.Given as goal

abbrev pub invariant-longer : goal.invariant-longer
invariant-longer l = 0 < l.count

abbrev pub decreases-longer : goal.decreases-longer
decreases-longer l = length l.list - l.count
