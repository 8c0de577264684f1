use Rattle.std.proofs.Common.{◌≡◌}
use Rattle.armus_base.specs.Finals.{given_below}
use Rattle.schedule.specs.inside.OpenPasses.{marked_phaser}
use Rattle.schedule.proofs.pass.listed.Given as goal

-- the phasers marked so far
abbrev pub invariant-loop-p : goal.invariant-loop-p
invariant-loop-p l = l.all.items ≡ given_below (marked_phaser l.marks) l.p
