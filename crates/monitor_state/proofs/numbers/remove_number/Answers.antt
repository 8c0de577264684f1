use Rattle.std.proofs.Common.{None}
use Rattle.monitor_state.proofs.NumbersByName.{number_after}
use Rattle.monitor_state.proofs.numbers.remove_number.Goals as goal

pub returns : goal.returns
returns c = number_after c.args.t.now c.args.numbers.now c.remove.new.self None c.remove.ensures.updates
