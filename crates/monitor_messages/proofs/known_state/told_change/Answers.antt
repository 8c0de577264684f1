use Rattle.std.proofs.Common.{sym, subst}
use Rattle.monitor_search.specs.Known.{AreStuckTasks}
use Rattle.trace_lines.specs.Values.{line_value}
use Rattle.monitor_messages.proofs.Unchanged.{same_told}
use Rattle.monitor_messages.proofs.known_state.told_change.Goals as goal

pub returns-then-keeps : goal.returns-then-keeps
returns-then-keeps c = λ s known keeps.
    let l = line_value c.args.line.now in
    let behind : AreStuckTasks c.args.state.now c.args.was =
    subst (λ a. AreStuckTasks a c.args.was) (sym known.leads) (keeps c.if-keeps.true c.args.was known.legal known.before) in
    (behind, same_told s l c.args.was c.args.state.now c.args.out.now.items known behind)
