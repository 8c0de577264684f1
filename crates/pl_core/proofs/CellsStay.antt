-- Cells that the plan asks for: by which ops, and that they stay.
use Rattle.std.proofs.Common.{◌≡◌, ℕ, refl, sym}
use Rattle.armus_base.specs.declared.op.Op.{Op}
use Rattle.armus_base.specs.declared.op.Op.TheVariants.{Make, Reg, Fork, Adv, Drop, Await}
use Rattle.armus_base.specs.Plans.{Makes, Plan, Registers}
use Rattle.pl_core.specs.declared.phase_table.MemberTable.{MemberTable}
use Rattle.pl_core.specs.inside.Enrolling.{Enrols, HasCells}
use Rattle.pl_core.specs.inside.Ops.{action_of}
use Rattle.pl_core.specs.inside.PhaseTables.{KeepsCells}

pub cells_stay : (plan : Plan) (old new : MemberTable) → HasCells plan old → KeepsCells old new → HasCells plan new
cells_stay plan old new has keeps = λ t c p inside child phaser enrolled. keeps c p (has t c p inside child phaser enrolled)

pub enrols_made : (op : Op) (t q : ℕ) → action_of op ≡ Makes q → Enrols t op t q
enrols_made (Make p) t q e = (refl, let same : p.0 ≡ q = (cc) in sym same)
enrols_made (Reg c p) t q e = absurd (cc)
enrols_made (Fork c) t q e = absurd (cc)
enrols_made (Adv p) t q e = absurd (cc)
enrols_made (Drop p) t q e = absurd (cc)
enrols_made (Await p off) t q e = absurd (cc)

pub enrols_registered : (op : Op) (t d q : ℕ) → action_of op ≡ Registers d q → Enrols t op d q
enrols_registered (Reg c p) t d q e = ((let same : c.0 ≡ d = (cc) in sym same), (let same : p.0 ≡ q = (cc) in sym same))
enrols_registered (Make p) t d q e = absurd (cc)
enrols_registered (Fork c) t d q e = absurd (cc)
enrols_registered (Adv p) t d q e = absurd (cc)
enrols_registered (Drop p) t d q e = absurd (cc)
enrols_registered (Await p off) t d q e = absurd (cc)
