use Rattle.std.proofs.Common.{rules, []}
use Rattle.std.proofs.lemmas.List.{get_or_default}
use Rattle.monitor_laws.specs.States.{new_participant}
use Rattle.monitor_reasons.specs.Found.{participant_at}
use Rattle.monitor_messages.proofs.guard.put_wait_answer.Goals as goal

pub returns-in_ok-put_refused-in-Some : goal.returns-in_ok-put_refused-in-Some
returns-in_ok-put_refused-in-Some c =
    let list = c.args.state.now.list in
    let u = participant_at list c.in-Some.task in
    let refused = c.in_ok-put_refused-in-Some.ensures in
    (u, (c.in-Some.task, search rules, get_or_default list c.in-Some.task u (new_participant 0 []) (search rules)), search rules, refused.0, refused.1, refused.2)
