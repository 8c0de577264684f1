use Rattle.std.proofs.Common.{◌<◌, sym, ◌∙◌, ap, subst}
use Rattle.monitor_laws.specs.States.{Waiting}
use Rattle.monitor_laws.specs.Stuck.{has_phase_below}
use Rattle.monitor_reasons.proofs.reaching.reach_on.Goals as goal

pub returns-then-is_passed-clause-reached : goal.returns-then-is_passed-clause-reached
returns-then-is_passed-clause-reached c = λ t n within waits below less.
    c.requires.passed t c.phaser.result.now n within (waits ∙ ap (λ x. Waiting x n) (sym c.phaser.ensures))
    (c.is_passed.ensures c.if-is_passed.true n (subst (λ m. m < n) (sym c.phase.ensures) less))

pub returns-clause-reached : goal.returns-clause-reached
returns-clause-reached c = λ t n within waits below less.
    let same = sym c.phaser-2.ensures in
    c.in_ok-reach_at.ensures.reached t n within (waits ∙ ap (λ x. Waiting x n) same) (ap (λ x. has_phase_below c.args.w.now x n) (sym same) ∙ below)
