use Rattle.std.proofs.Common.{arith}
use Rattle.source_map.proofs.Building.{goes_on, is_whole}
use Rattle.source_map.proofs.places.lines_of.Goals as goal

pub returns-then-end-text : goal.returns-then-end-text
returns-then-end-text c =
    is_whole c.args.text.now c.loop-lines.lines.items c.loop-lines.begin _ _ _ c.loop-lines.invariant c.line_from-line.ensures.line c.named_in-named.ensures
    c.in_ok-push.ensures.items c.if-end-text.true

pub loop-lines-preserved : goal.loop-lines-preserved
loop-lines-preserved c =
    goes_on c.args.text.now c.loop-lines.lines.items c.loop-lines.begin _ _ _ c.loop-lines.invariant c.line_from-line.ensures.line c.named_in-named.ensures
    c.in_ok-push.ensures.items (let w = c.line_from-line.ensures.within in let no = c.if-end-text.false in omega (arith, no))
