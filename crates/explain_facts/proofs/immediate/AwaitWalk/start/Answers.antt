use Rattle.std.proofs.Common.{◌≡◌, ◌∙◌, ◌+◌, arith}
use Rattle.pl_syntax.specs.Tree.{count}
use Rattle.explain_facts.specs.ImmediateAwaits.{is_late, is_shared}
use Rattle.explain_facts.proofs.Noting.{marks_first, phases_first}
use Rattle.explain_facts.proofs.immediate.AwaitWalk.start.Goals as goal

pub overflow_add-marks : goal.overflow_add-marks
overflow_add-marks c = omega (arith, c.statements-marks.ensures, c.requires.known.few)

pub returns : goal.returns
returns c =
    let p = c.args.facts.now.program.now in
    let many : c.statements-marks.result + 1 ≡ count p.body + 1 = omega (arith, c.statements-marks.ensures) in
    record {
      cells = c.in_ok-phases.ensures.cells;
      phases = c.in_ok-phases.ensures.none ∙ phases_first c.args.plan.now c.requires.checked;
      shared = marks_first (is_shared c.args.plan.now) p c.args.plan.now c.in_ok-shared.shared.items _ c.in_ok-shared.ensures many;
      late = marks_first is_late p c.args.plan.now c.in_ok-late.late.items _ c.in_ok-late.ensures many;
    }
