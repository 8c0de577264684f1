use Rattle.std.proofs.Common.{◌++◌, ◌∙◌, ap}
use Rattle.trace_lines.specs.Values.{line_value}
use Rattle.monitor_messages.proofs.Tells.{tells_change}
use Rattle.monitor_messages.proofs.changes.put_change.Goals as goal

pub returns : goal.returns
returns c s takes =
    let told = c.in_ok-told.ensures in
    tells_change s (line_value c.args.line.now) c.args.was.now c.args.state.now c.args.stuck.now c.args.out.now.items c.put_newly.new.out.items told.0 c.in_ok-told.told takes
    (told.1 ∙ ap (λ x. x ++ told.0) c.in_ok-put_gone.ensures) told.2
