-- What is pending, op by op.
use Rattle.std.specs.Prelude.{Bool, true, false, List}
use Rattle.armus_base.specs.declared.op.Op.{Op}
use Rattle.armus_base.specs.declared.op.Op.TheVariants.{Adv, Await, Drop}
use Rattle.pl_plan.specs.calls.MemberRows.{marked}

-- which are pending after an op
abbrev pub pending_by : Op → List Bool → List Bool
pending_by (Adv p) row = marked p.0 true row
pending_by (Await p off) row = marked p.0 false row
pending_by (Drop p) row = marked p.0 false row
pending_by op row = row
