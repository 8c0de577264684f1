use Rattle.adaptive.proofs.AwaitedEvents.{counted, in_order}
use Rattle.adaptive.proofs.waits.later.Goals as goal

pub overflow_sub-result : goal.overflow_sub-result
overflow_sub-result c = in_order c.args.member c.args.events.now c.first_past.result c.first_on_later.result c.first_past.ensures c.first_on_later.ensures

pub returns : goal.returns
returns c = counted c.args.member c.args.events.now c.first_past.result c.first_on_later.result c.first_past.ensures c.first_on_later.ensures
