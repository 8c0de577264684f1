use Rattle.std.proofs.lemmas.Result.{IfOk-weaker}
use Rattle.dep_state.specs.inside.Made.{IsDistinctOf, IsEventsOf}
use Rattle.dep_state.proofs.DistinctEvents.{never_falls, events_of}
use Rattle.dep_state.proofs.events.awaited_events.Goals as goal

pub distinct-requires : goal.distinct-requires
distinct-requires c = rw c.deref.ensures.value (never_falls c.sort_unstable.new.self.items c.sort_unstable.ensures.sorted)

pub returns : goal.returns
returns c =
    IfOk-weaker c.distinct.result (λ v. IsDistinctOf c.deref.result.now v.items) (λ v. IsEventsOf c.args.list.now v.items)
    (λ v h. events_of c.args.list.now c.in_ok-all.all.items c.sort_unstable.new.self.items v.items c.in_ok-all.ensures c.sort_unstable.ensures.permutation
    (rw c.deref.ensures.value at h))
    c.distinct.ensures
