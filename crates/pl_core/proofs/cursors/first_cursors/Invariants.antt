use Rattle.std.proofs.Common.{◌≡◌}
use Rattle.armus_base.specs.Finals.{list_below}
use Rattle.armus_base.specs.Plans.{code_of}
use Rattle.pl_core.proofs.cursors.first_cursors.Given as goal

abbrev pub invariant-loop-t : goal.invariant-loop-t
invariant-loop-t l = l.cursors.items ≡ list_below (code_of l.plan) l.t
