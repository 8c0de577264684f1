use Rattle.armus_top.proofs.Served.{answers_by}
use Rattle.armus_top.proofs.running.CallSetting.serve_waiting.Goals as goal

pub returns : goal.returns
returns g c =
    let command = c.args.command.now in
    let input = c.args.input.now in
    let wrote = c.write_answer.ensures in
    let by = answers_by command input c.answer_waiting-answer.result c.answer_waiting-answer.ensures.answer c.answer_waiting-answer.ensures.refused in
    record { done = wrote.done command input by; silent = wrote.silent command input by; unwritten = wrote.unwritten command input by }
