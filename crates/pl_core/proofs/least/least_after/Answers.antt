use Rattle.std.proofs.Common.{◌≡◌, ◌∙◌, None, Some, length, subst, sym}
use Rattle.pl_core.specs.inside.Cells.{phase_in_cell}
use Rattle.pl_core.specs.inside.LeastPhases.{IsLeastBelow}
use Rattle.pl_core.proofs.LeastMembers.{at_most_trans}
use Rattle.pl_core.proofs.least.least_after.Goals as goal

pub returns-in-None : goal.returns-in-None
returns-in-None c =
    let before = c.requires.before in
    let nobody = subst (λ o. IsLeastBelow before.0 (length c.args.cells.now) o) c.in-None.is before.1 in
    c.alone.ensures (phase_in_cell c.args.cells.now) (length c.args.cells.now) (sym c.phase_at-phase.ensures) c.requires.inside
    (λ u m l n e. absurd (let was : before.0 u ≡ Some m = before.2 u n ∙ e in let none = nobody u l in (let no : None ≡ Some m = sym none ∙ was in cc)))

pub returns-then-is_at_most : goal.returns-then-is_at_most
returns-then-is_at_most c =
    let before = c.requires.before in
    let least = subst (λ o. IsLeastBelow before.0 (length c.args.cells.now) o) c.in-Some.is before.1 in
    let most = c.if-is_at_most.ensures in
    c.alone-then-is_at_most.ensures (phase_in_cell c.args.cells.now) (length c.args.cells.now) (sym c.phase_at-phase.ensures) c.requires.inside
    (λ u m l n e. (
      at_most_trans c.phase_at-phase.result c.in-Some.member.phase m most (least.2 u m l (before.2 u n ∙ e)),
      least.2 u m l (before.2 u n ∙ e),
    ))
