use Rattle.std.proofs.Common.{take}
use Rattle.monitor_search.specs.inside.Cascades.{HaveMembers, named_group}
use Rattle.monitor_search.proofs.grouping.member_groups.Given as goal

-- so far
abbrev pub invariant-loop-u : goal.invariant-loop-u
invariant-loop-u l = HaveMembers (take l.u-index l.list) (named_group l.groups)
