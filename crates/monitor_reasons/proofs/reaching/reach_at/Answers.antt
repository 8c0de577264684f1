use Rattle.std.proofs.Common.{◌<◌, ◌∙◌, ap}
use Rattle.std.proofs.lemmas.Bool.{ltb-true}
use Rattle.monitor_laws.specs.Stuck.{is_phase_below}
use Rattle.monitor_words.specs.Stops.{keeps_waiting}
use Rattle.monitor_reasons.specs.Found.{participant_at}
use Rattle.monitor_reasons.proofs.Filling.{fills_same}
use Rattle.monitor_reasons.proofs.reaching.reach_at.Goals as goal

pub returns-then-is_passed-clause-reached : goal.returns-then-is_passed-clause-reached
returns-then-is_passed-clause-reached c = λ t n within waits below.
    let above : c.in-Some.m < n = ltb-true c.in-Some.m n (ap (λ o. is_phase_below o n) c.in-Some.ensures ∙ below) in
    c.requires.passed t c.args.p.now n within waits (c.is_passed.ensures c.if-is_passed.true n above)

pub returns-in_ok-pass-in-Some-clause-fills : goal.returns-in_ok-pass-in-Some-clause-fills
returns-in_ok-pass-in-Some-clause-fills c =
    fills_same c.args.search.now c.reach_above.new.search c.pass.new.search c.args.d (λ t. keeps_waiting c.args.w.now (participant_at c.args.list.now t)) c.in_ok-reach_above-in-Some.ensures.fills
    c.in_ok-pass-in-Some.ensures.distances c.in_ok-pass-in-Some.ensures.fresh
