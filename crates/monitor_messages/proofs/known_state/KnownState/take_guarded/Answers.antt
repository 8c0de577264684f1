use Rattle.std.proofs.lemmas.Result.{IfOk-weaker}
use Rattle.trace_lines.specs.Values.{line_value}
use Rattle.monitor_messages.proofs.Guarded.{other_taken}
use Rattle.monitor_messages.proofs.known_state.KnownState.take_guarded.Goals as goal

pub returns-in-None : goal.returns-in-None
returns-in-None c =
    IfOk-weaker c.take_line.result _ _ (λ end taken. other_taken c.args.self.now (line_value c.args.line.now) _ _ _ end c.in-None.ensures.none taken) c.take_line.ensures
