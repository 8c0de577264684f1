use Rattle.std.proofs.Common.{[], ◌∷◌, ◌++◌, ◌∙◌, ◌+◌, ◌-◌, ap, drop, length, take}
use Rattle.program_io.proofs.LegibleWritten.{behind_is, legible_more}
use Rattle.program_io.proofs.legible_bytes.legible.Goals as goal

pub loop-index-preserved : goal.loop-index-preserved
loop-index-preserved c =
    let so = c.loop-index in
    let text = c.args.text.now in
    legible_more text so.index so.left so.out.items c.push.new.self.items c.behind_byte-left.result c.loop-index-test.true so.invariant
    (take (length text - (so.index + 1)) (drop (so.index + 1) text)) (behind_is text (so.index + 1)) (c.in_ok-push.ensures.items ∙ ap (λ b. c.loop-index.out.items ++ b ∷ []) c.legible_byte.ensures) c.behind_byte-left.ensures
