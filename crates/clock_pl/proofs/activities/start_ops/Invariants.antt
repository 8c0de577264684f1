use Rattle.std.proofs.Common.{◌≡◌, map, take}
use Rattle.armus_base.specs.declared.op.Op.TheVariants.{Reg}
use Rattle.clock_pl.proofs.activities.start_ops.Given as goal

abbrev pub invariant-loop-p : goal.invariant-loop-p
invariant-loop-p l = l.ops.items ≡ map (λ p. Reg l.c p) (take l.p-index l.on)
