use Rattle.std.proofs.Common.{rules, of_calls}
use Rattle.std.specs.Prelude.{MatchBool}
use Rattle.std.proofs.lemmas.List.Sorted.{IsPartitionPoint-from_clause}
use Rattle.armus_base.specs.declared.event.Event.{Event}
use Rattle.dep_state.specs.inside.Made.{NotAfter}
use Rattle.dep_state.proofs.AddedRows.{not_after_test, tests_not_after}
use Rattle.adaptive.proofs.AwaitedEvents.{phase_of}
use Rattle.adaptive.proofs.EventSearches.{first_past_at, past_parted}
use Rattle.adaptive.proofs.waits.first_past.Goals as goal

pub returns : goal.returns
returns c =
    let es = c.args.events.now in
    let x = phase_of c.args.member in
    first_past_at es c.args.member c.partition_point.result c.partition_point.ensures.bound (
    IsPartitionPoint-from_clause (λ (e : Event). not_after_test e x) es c.partition_point.result c.partition_point.ensures.partitioned (past_parted es c.args.member c.requires)
    (λ a r q k.
    let h : MatchBool r (NotAfter a.0.now x) (NotAfter a.0.now x → ⊥) = search (rules, of_calls) in
    (tests_not_after a.0.now x r h, search (rules, of_calls))))
