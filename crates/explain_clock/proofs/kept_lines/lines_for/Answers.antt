use Rattle.std.proofs.Common.{◌∙◌, sym}
use Rattle.explain_clock.proofs.KeptLines.{kept_there}
use Rattle.explain_clock.proofs.kept_lines.lines_for.Goals as goal

pub returns-then-is_same_event : goal.returns-then-is_same_event
returns-then-is_same_event c = λ f kept.
    kept_there f c.args.kept.now c.loop-one.one-index c.one-item.result c.args.event kept c.loop-one-test.true c.one-item.is
    (sym c.is_same_event.ensures ∙ c.if-is_same_event.true)
