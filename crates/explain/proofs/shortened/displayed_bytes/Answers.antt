use Rattle.std.proofs.Common.{◌+◌, ap, arith}
use Rattle.explain.specs.Shortened.{are_few_paragraphs}
use Rattle.explain.proofs.Fronts.{fronts_more, last_within}
use Rattle.explain.proofs.shortened.displayed_bytes.Goals as goal

pub loop-index-preserved : goal.loop-index-preserved
loop-index-preserved c =
    let front = c.loop-index in
    fronts_more c.args.room c.args.text.now front.index front.lines (front.lines + c.line_feed-lines.result) front.shown c.displayed_with-shown.result
    c.loop-index-test.true front.invariant (ap (λ n. c.loop-index.lines + n) c.line_feed-lines.ensures) c.displayed_with-shown.ensures

pub returns-clause-within : goal.returns-clause-within
returns-clause-within c =
    let is = c.loop-index.invariant.shown_are in
    let within = last_within (are_few_paragraphs c.args.room c.args.text.now) c.loop-index.index in
    omega (arith, is, within)
