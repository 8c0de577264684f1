use Rattle.std.proofs.Common.{arith}
use Rattle.explain.specs.Shortened.{begins_line}
use Rattle.explain.proofs.Fronts.{begins_more, last_within}
use Rattle.explain.proofs.shortened.last_line_begin.Goals as goal

pub loop-index-preserved : goal.loop-index-preserved
loop-index-preserved c =
    let so = c.loop-index in
    begins_more c.args.text.now so.index so.begin c.last_begin_with-begin.result so.invariant c.last_begin_with-begin.ensures

pub returns-clause-within : goal.returns-clause-within
returns-clause-within c =
    let is = c.loop-index.invariant in
    let within = last_within (begins_line c.args.text.now) c.loop-index.index in
    omega (arith, is, within)
