use Rattle.std.proofs.Common.{◌∙◌, ap, subst, sym}
use Rattle.pl_core.specs.inside.Cells.{StandsInCell, StandsIn, phase_in_cell}
use Rattle.pl_core.proofs.Cells.{among_none, among_stands}
use Rattle.pl_core.proofs.members.Members.get.Goals as goal

pub returns-in-Some : goal.returns-in-Some
returns-in-Some c =
    let there = subst (λ xs. StandsInCell xs c.in-Some.at c.args.t) c.deref.ensures.value c.in-Some.ensures in
    c.phase_at.ensures
    ∙ ap (λ xs. phase_in_cell xs c.in-Some.at) c.deref-in-Some.ensures.value
    ∙ among_stands c.args.self.now.cells.items c.in-Some.at c.args.t c.args.self.now.ascend there

pub returns-in-None : goal.returns-in-None
returns-in-None c =
    sym (among_none c.args.self.now.cells.items c.args.t (subst (λ xs. StandsIn xs c.args.t → ⊥) c.deref.ensures.value c.in-None.ensures))
