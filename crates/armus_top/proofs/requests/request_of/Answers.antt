use Rattle.std.proofs.Common.{map, string_bytes, subst, refl}
use Rattle.program_io.specs.calls.Passages.{passage}
use Rattle.command_line.specs.Commands.{Means}
use Rattle.armus_top.specs.Texts.{usage_line}
use Rattle.program_io.specs.calls.ExitNumbers.{number_of_status}
use Rattle.armus_top.proofs.Ending.{finished_as}
use Rattle.armus_top.proofs.Served.{call_of_usage, call_served}
use Rattle.armus_top.proofs.requests.request_of.Goals as goal

pub returns-in-Ok-None-clause-ends : goal.returns-in-Ok-None-clause-ends
returns-in-Ok-None-clause-ends g c =
    call_of_usage (map string_bytes c.args.words.now) _ _ _ _ (number_of_status c.finish.result)
    (subst (Means (map string_bytes c.args.words.now)) c.in-Ok-None.field-0-is c.in-Ok-None.ensures.means) refl refl
    (finished_as (passage g.K.Sink.taken g.K.Sink.faults c.args.out.now c.finish.new.out) usage_line c.as_bytes.result.now 2 (number_of_status c.finish.result)
    c.as_bytes.ensures.value c.finish.ensures.done)

pub returns-in-Err-input_for-clause-ends : goal.returns-in-Err-input_for-clause-ends
returns-in-Err-input_for-clause-ends g c =
    let means = subst (Means (map string_bytes c.args.words.now)) c.in-Ok-Some.field-0-is c.in-Ok-Some.ensures.means in
    call_served (map string_bytes c.args.words.now) c.in-Ok-Some.command _ _ _ _ (number_of_status c.in-Err-input_for.status) means c.in-Err-input_for.ensures.ends
    c.in-Err-input_for.ensures.same c.in-Err-input_for.ensures.silent (λ off. c.in-Err-input_for.ensures.short)
