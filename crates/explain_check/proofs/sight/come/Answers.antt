use Rattle.std.proofs.Common.{arith, ◌+◌, subst, sym}
use Rattle.pl_plan.specs.inside.CheckerSteps.{HasNames}
use Rattle.pl_plan.proofs.Onward.{count_keeps}
use Rattle.explain_check.proofs.sight.come.Goals as goal

pub act_or_fork-requires-clause-fits : goal.act_or_fork-requires-clause-fits
act_or_fork-requires-clause-fits c =
    let keeps = count_keeps c.args.checker.now c.count_visit.new.checker (c.args.at + 1) c.requires.fits c.in_ok-count_visit.ensures in keeps.fits

pub act_or_fork-requires-clause-task : goal.act_or_fork-requires-clause-task
act_or_fork-requires-clause-task c =
    let keeps = count_keeps c.args.checker.now c.count_visit.new.checker (c.args.at + 1) c.requires.fits c.in_ok-count_visit.ensures in
    omega (arith, keeps.more, c.requires.task)

pub act_or_fork-requires-clause-names : goal.act_or_fork-requires-clause-names
act_or_fork-requires-clause-names c =
    let keeps = count_keeps c.args.checker.now c.count_visit.new.checker (c.args.at + 1) c.requires.fits c.in_ok-count_visit.ensures in
    subst (λ n. HasNames n c.args.step) (sym keeps.slots) c.requires.names
