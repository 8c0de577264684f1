use Rattle.std.proofs.Common.{◌∙◌, ap, arith, length}
use Rattle.explain_facts.specs.calls.Known.{kept_layout}
use Rattle.explain_facts.proofs.Witnesses.{statements_have_places}
use Rattle.explain_facts.proofs.immediate.statements.Goals as goal

pub returns : goal.returns
returns c = ap length c.as_slice.ensures.items ∙ (statements_have_places c.args.facts.now.program.now (kept_layout c.args.facts.now) c.requires.layout).0

pub overflow_cast-result : goal.overflow_cast-result
overflow_cast-result c =
    let all = (statements_have_places c.args.facts.now.program.now (kept_layout c.args.facts.now) c.requires.layout).0 in
    let same = ap length c.as_slice.ensures.items in
    omega (arith, all, same, c.requires.few)
