use Rattle.std.proofs.Common.{length}
use Rattle.pl_core.specs.inside.Cells.{phase_in_cell}
use Rattle.pl_core.proofs.LeastMembers.{at_most_trans}
use Rattle.pl_core.proofs.least.least_without.Goals as goal

pub returns-then-is_at_most : goal.returns-then-is_at_most
returns-then-is_at_most c =
    let least = c.requires in
    c.alone.ensures (phase_in_cell c.args.cells.now) (length c.args.cells.now) least.phase least.inside
    (λ u m l n e. (
      at_most_trans c.args.phase c.args.member.others m c.if-is_at_most.ensures (least.others u m l n e),
      least.others u m l n e,
    ))
