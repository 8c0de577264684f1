use Rattle.std.proofs.Common.{arith}
use Rattle.monitor_words.specs.Stops.{stops}
use Rattle.monitor_state.proofs.OnePassing.{none_at_places}
use Rattle.monitor_search.specs.Known.{has_stuck_number}
use Rattle.monitor_reasons.specs.inside.Listings.{listing}
use Rattle.monitor_reasons.proofs.reasons.stopper.Goals as goal

pub returns : goal.returns
returns c =
    let list = c.args.list.now in
    none_at_places (λ v. stops (listing list) (has_stuck_number c.args.stuck.now) v c.args.f.now) list (λ k d within. c.loop-at.invariant k d (omega arith))
