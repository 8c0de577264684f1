use Rattle.std.proofs.Common.{◌≡◌, ◌∙◌, ◌+◌, ap, arith, suc}
use Rattle.explain_facts.specs.Accounts.{immediate_await}
use Rattle.explain_facts.specs.calls.Known.{kept_layout}
use Rattle.explain_facts.proofs.ImmediateTold.{told_more}
use Rattle.explain_facts.proofs.immediate.immediate_among.Goals as goal

pub loop-i-preserved : goal.loop-i-preserved
loop-i-preserved c =
    let l = kept_layout c.args.facts.now in
    let p = c.args.facts.now.program.now in
    let one : c.loop-i.i + 1 ≡ suc c.loop-i.i = omega arith in
    told_more (λ i. immediate_await l p c.args.plan.now (suc i)) c.loop-i.i c.loop-i.all.items c.push_told.new.all.items c.in_ok-told.told c.loop-i.invariant
    c.in_ok-push_told.ensures (c.in_ok-told.ensures ∙ ap (immediate_await l p c.args.plan.now) one)
