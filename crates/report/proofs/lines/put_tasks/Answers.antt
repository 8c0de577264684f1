use Rattle.std.proofs.Common.{◌++◌, ap, ◌∙◌}
use Rattle.report.specs.Lines.{task_line}
use Rattle.report.specs.declared.standing.Standing.TheVariants.{Done}
use Rattle.report.proofs.Texts.{texts_all, texts_more}
use Rattle.report.proofs.lines.put_tasks.Goals as goal

pub loop-t-preserved : goal.loop-t-preserved
loop-t-preserved c =
    c.in_ok-put_task.ensures ∙ texts_more task_line Done c.args.standings.now c.loop-t.t c.loop-t-test.true c.args.out.now.items c.loop-t.out.items c.loop-t.invariant

pub returns : goal.returns
returns c = c.loop-t.invariant ∙ ap (λ xs. c.args.out.now.items ++ xs) (texts_all task_line c.args.standings.now c.loop-t.t c.loop-t-test.false)
