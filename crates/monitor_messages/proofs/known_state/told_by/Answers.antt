use Rattle.std.proofs.Common.{rules}
use Rattle.monitor_search.specs.Known.{AreStuckAfter, AreStuckTasks, KeepsStuck}
use Rattle.trace_lines.specs.Values.{line_value}
use Rattle.monitor_messages.proofs.Unchanged.{same_told}
use Rattle.monitor_messages.proofs.known_state.told_by.Goals as goal

pub returns-in-None : goal.returns-in-None
returns-in-None c = λ s known.
    let keeps : KeepsStuck c.args.state.now (line_value c.args.line.now) c.args.was = search rules in
    let behind : AreStuckTasks c.args.state.now c.args.was = keeps s known.lawful known.leads known.legal known.before in
    (behind, same_told s (line_value c.args.line.now) c.args.was c.args.state.now c.args.out.now.items known behind)

pub returns-in_ok-told-in-Some : goal.returns-in_ok-told-in-Some
returns-in_ok-told-in-Some c = λ s known.
    let are : AreStuckAfter c.args.state.now (line_value c.args.line.now) c.args.was c.in-Some.stuck = search rules in
    let behind : AreStuckTasks c.args.state.now c.in-Some.stuck = are s known.lawful known.leads known.legal known.before in
    (behind, c.in_ok-told-in-Some.ensures s (record { lawful = known.lawful; legal = known.legal; leads = known.leads; before = known.before; behind = behind }))
