use Rattle.std.proofs.Common.{rules, refl}
use Rattle.monitor_words.specs.Stops.{keeps_waiting}
use Rattle.monitor_reasons.specs.Found.{participant_at}
use Rattle.monitor_reasons.proofs.Filling.{fills_nothing}
use Rattle.monitor_reasons.proofs.Passing.{one_filled}
use Rattle.monitor_reasons.proofs.reaching.reach.Goals as goal

pub returns-then-not-may_reach-clause-fills : goal.returns-then-not-may_reach-clause-fills
returns-then-not-may_reach-clause-fills c = fills_nothing c.args.search.now c.args.d (λ t. keeps_waiting c.args.w.now (participant_at c.args.list.now t))

pub returns-then-not-may_reach-clause-reached : goal.returns-then-not-may_reach-clause-reached
returns-then-not-may_reach-clause-reached c = λ within keeps. c.may_reach.ensures.off c.if-not-may_reach.true within keeps

pub returns-clause-fills : goal.returns-clause-fills
returns-clause-fills c =
    let on = c.may_reach.ensures.on c.if-not-may_reach.false in
    one_filled c.args.search.now _ c.args.d c.args.place (λ t. keeps_waiting c.args.w.now (participant_at c.args.list.now t)) (search rules) on.1 on.2 refl c.in_ok-push.ensures.items
