use Rattle.std.proofs.Common.{◌≡◌, ◌++◌, List, ℕ, ap, ◌∙◌}
use Rattle.std.proofs.lemmas.Result.{on_ok_weaker}
use Rattle.monitor_reasons.specs.Found.{participant_at, reason_value}
use Rattle.monitor_words.specs.inside.ValueMessages.{shown_refusal_words}
use Rattle.monitor_words.proofs.Joined.{joins_refusal}
use Rattle.monitor_messages.specs.inside.Guarded.{RefusesWait}
use Rattle.monitor_messages.proofs.guard.put_refused.Goals as goal

pub returns : goal.returns
returns c =
    let list = c.args.state.now.list in
    let u = participant_at list c.args.task in
    let because = reason_value list c.in_ok-found.found in
    on_ok_weaker
    {Q = (words : List ℕ) × (c.put_refusal.new.out.items ≡ c.args.out.now.items ++ words) × RefusesWait c.args.state.now c.args.stuck.now u words}
    c.put_refusal.result
    (λ is. (shown_refusal_words c.in_ok-sentence.sentence, is, (because, c.in_ok-found.ensures.reason, ap shown_refusal_words c.in_ok-sentence.ensures ∙ joins_refusal u because))) c.put_refusal.ensures
