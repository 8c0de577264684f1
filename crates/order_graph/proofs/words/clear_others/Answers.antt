use Rattle.std.proofs.Common.{◌∙◌, arith}
use Rattle.std.proofs.lemmas.List.{ext_get_or}
use Rattle.order_graph.proofs.words.clear_others.Goals as goal

pub returns-clause-same : goal.returns-clause-same
returns-clause-same c is =
    ext_get_or 0 c.loop-k.words c.args.other.now (c.loop-k.invariant.sized ∙ c.loop-k.invariant.whole is)
    (λ j lt. c.loop-k.invariant.same is j (omega (arith, lt, c.loop-k-test.false, c.loop-k.invariant.sized)))
