use Rattle.std.proofs.Common.{subst, sym}
use Rattle.explain_facts.specs.inside.PhaseRows.{HasRowCell}
use Rattle.explain_facts.proofs.immediate.AwaitWalk.go_on.Goals as goal

pub returns-clause-cells : goal.returns-clause-cells
returns-clause-cells c t q has = c.begin.ensures.cells t q (subst (λ p. HasRowCell p t q) (sym c.note.ensures.phases) has)
