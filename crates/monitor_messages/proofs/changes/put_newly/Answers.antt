use Rattle.std.proofs.Common.{subst}
use Rattle.std.specs.Prelude.{IfSome}
use Rattle.trace_lines.specs.Values.{line_value}
use Rattle.monitor_search.specs.Known.{has_stuck_number}
use Rattle.monitor_messages.specs.inside.Newly.{AreNewlyStuck}
use Rattle.monitor_messages.proofs.Places.{told_at_places}
use Rattle.monitor_messages.proofs.changes.put_newly.Goals as goal

pub returns-in_ok-put_newly_stuck-in-Some : goal.returns-in_ok-put_newly_stuck-in-Some
returns-in_ok-put_newly_stuck-in-Some c =
    let l = line_value c.args.line.now in
    let s = c.args.state.now in
    let was = has_stuck_number c.args.was.now in
    let stuck = has_stuck_number c.args.stuck.now in
    let told = c.in_ok-put_newly_stuck-in-Some.ensures in
    let are = subst (λ o. IfSome o (AreNewlyStuck l s was stuck)) c.in-Some.is c.in_ok-newly_stuck.ensures.some in
    (told.0, told.1, told_at_places l s was stuck c.in-Some.newly told.0 are told.2)
