use Rattle.std.proofs.Common.{◌≡◌, length, sum_by, take}
use Rattle.armus_base.proofs.plan.Plan.ops.Given as goal

abbrev pub invariant-loop-code : goal.invariant-loop-code
invariant-loop-code l = l.ops ≡ sum_by length (take l.code-index l.self.codes)
