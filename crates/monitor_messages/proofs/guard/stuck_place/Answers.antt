use Rattle.std.proofs.Common.{sym, ◌∙◌, ap}
use Rattle.monitor_search.specs.Known.{has_stuck_number}
use Rattle.monitor_messages.proofs.StuckPlaces.{none_stuck, one_not_stuck}
use Rattle.monitor_messages.proofs.guard.stuck_place.Goals as goal

pub returns-in-None-clause-none : goal.returns-in-None-clause-none
returns-in-None-clause-none c = none_stuck c.args.state.now.list c.args.stuck.now c.args.t.now c.in-None.ensures.none

pub returns-else-has_number-clause-none : goal.returns-else-has_number-clause-none
returns-else-has_number-clause-none c =
    one_not_stuck c.args.state.now c.participants-list.ensures.lawful c.args.stuck.now c.args.t.now c.in-Some.at c.in-Some.ensures.at
    c.participants-list.result.now c.participants-list.ensures.list c.index-list-at.result c.index-list-at.is
    (ap (has_stuck_number c.args.stuck.now) (sym c.number.ensures) ∙ sym c.has_number.ensures ∙ c.if-has_number.false)
