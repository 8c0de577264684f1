use Rattle.std.proofs.Common.{◌≡◌, length, rules, arith}
use Rattle.monitor_laws.specs.States.{is_there_as}
use Rattle.monitor_state.proofs.OnePassing.{none_at_places}
use Rattle.monitor_messages.proofs.newly.place_there.Goals as goal

pub returns-clause-none : goal.returns-clause-none
returns-clause-none c =
    let list = c.args.list.now in
    let at_end : c.loop-at.at ≡ length list = search rules in
    none_at_places (is_there_as c.args.t.now) list (λ k d within. c.loop-at.invariant k d (omega arith))
