use Rattle.std.proofs.Common.{arith, sym}
use Rattle.pl_core.specs.inside.Enrolling.{IsNoted}
use Rattle.pl_core.proofs.Tables.{nobody_in}
use Rattle.std.proofs.Common.{subst}
use Rattle.pl_core.proofs.phase_table.MemberTable.of.Goals as goal

pub returns-clause-empty : goal.returns-clause-empty
returns-clause-empty c = nobody_in _ c.in_ok-rows.ensures.made.empty

pub returns-clause-cells : goal.returns-clause-cells
returns-clause-cells c t u p inside child phaser enrolled =
    c.in_ok-rows.ensures.cells u p (let n = c.phasers-phasers.ensures.counted in omega arith)
    (subst (λ rows. IsNoted rows u p) (sym c.deref.ensures.value) (c.in_ok-enrolled.ensures.noted t u p inside child enrolled))
