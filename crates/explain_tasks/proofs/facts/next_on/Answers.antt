use Rattle.std.proofs.Common.{◌≡◌, suc, ◌+◌, ap, arith, sym, take, ◌∙◌}
use Rattle.std.specs.Prelude.{◌==◌}
use Rattle.std.specs.List.{find}
use Rattle.std.proofs.lemmas.List.{take_all}
use Rattle.explain_facts.specs.declared.account.NextOp.{NextOp}
use Rattle.explain_tasks.proofs.NextOn.{found, not_found}
use Rattle.explain_tasks.proofs.facts.next_on.Goals as goal

pub returns-then-is_on : goal.returns-then-is_on
returns-then-is_on c =
    sym
    (found (λ (x : NextOp). x.p.0 == c.args.p.0) c.args.nexts.now c.loop-next.next-index _ c.loop-next-test.true c.loop-next.invariant
    (sym c.is_on.ensures ∙ c.if-is_on.true))

pub loop-next-preserved : goal.loop-next-preserved
loop-next-preserved c =
    let p = λ (x : NextOp). x.p.0 == c.args.p.0 in
    let k = c.loop-next.next-index in
    ap (λ m. find p (take m c.args.nexts.now)) (let e : k + 1 ≡ suc k = omega arith in e)
    ∙ not_found p c.args.nexts.now k _ c.loop-next-test.true c.loop-next.invariant (sym c.is_on.ensures ∙ c.if-is_on.false)

pub returns : goal.returns
returns c =
    let p = λ (x : NextOp). x.p.0 == c.args.p.0 in
    sym (ap (find p) (sym (take_all c.loop-next.next-index c.args.nexts.now c.loop-next-test.false)) ∙ c.loop-next.invariant)
