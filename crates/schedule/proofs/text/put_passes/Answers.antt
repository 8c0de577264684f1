use Rattle.std.proofs.Common.{◌++◌, ◌+◌, ap, ◌∙◌}
use Rattle.schedule.specs.Texts.{pass_line}
use Rattle.schedule.proofs.PassLines.{pass_lines_more, pass_lines_all}
use Rattle.schedule.proofs.text.put_passes.Goals as goal

pub loop-at-preserved : goal.loop-at-preserved
loop-at-preserved c =
    c.in_ok-put_pass.ensures ∙ ap (λ v. c.loop-at.out.items ++ pass_line (c.loop-at.at + 1) v) c.index-verdicts-at.is
    ∙ pass_lines_more c.args.verdicts.now c.loop-at.at c.index-verdicts-at.result c.loop-at-test.true c.args.out.now.items c.loop-at.out.items c.loop-at.invariant

pub returns : goal.returns
returns c = c.loop-at.invariant ∙ ap (λ xs. c.args.out.now.items ++ xs) (pass_lines_all c.args.verdicts.now c.loop-at.at c.loop-at-test.false)
