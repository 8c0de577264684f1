use Rattle.std.proofs.Common.{rules, leb}
use Rattle.std.proofs.lemmas.List.Sorted.{IsPartitionPoint-from_clause}
use Rattle.armus_base.specs.declared.event.Event.{Event}
use Rattle.adaptive.proofs.EventSearches.{first_on_later_at, later_parted}
use Rattle.adaptive.proofs.waits.first_on_later.Goals as goal

pub returns : goal.returns
returns c =
    let es = c.args.events.now in
    first_on_later_at es c.args.p.0 c.partition_point.result c.partition_point.ensures.bound (
    IsPartitionPoint-from_clause (λ (e : Event). leb e.p.0 c.args.p.0) es c.partition_point.result c.partition_point.ensures.partitioned (later_parted es c.args.p.0 c.requires)
    (λ a r q k. search rules))
