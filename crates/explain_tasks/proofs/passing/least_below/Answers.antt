use Rattle.std.proofs.Common.{◌∙◌, arith, sym}
use Rattle.explain_tasks.proofs.FirstThat.{first_is}
use Rattle.explain_tasks.proofs.passing.least_below.Goals as goal

pub returns-then-test : goal.returns-then-test
returns-then-test g c = λ p told.
    sym (first_is (λ t. record { 0 = t }) p c.loop-t.t c.args.count c.loop-t-test.true (c.loop-t.invariant p told)
    (sym (told _ _ (omega arith) c.test.ensures) ∙ c.if-test.true))
