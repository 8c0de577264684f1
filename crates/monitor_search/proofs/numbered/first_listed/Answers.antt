use Rattle.std.proofs.Common.{rules, arith, ltb, ltb-true, ltb-false}
use Rattle.std.proofs.lemmas.List.Sorted.{IsPartitionPoint-from_clause, IsPartitionedBy-ltb}
use Rattle.monitor_laws.specs.States.{Participant}
use Rattle.monitor_search.proofs.NumberSearch.{first_numbered, numbers_never_fall}
use Rattle.monitor_search.proofs.numbered.first_listed.Goals as goal

pub returns-then-is_numbered_at : goal.returns-then-is_numbered_at
returns-then-is_numbered_at c =
    first_numbered c.args.list.now c.args.number c.likely_place-likely.result c.requires (c.is_numbered_at.ensures.within c.if-is_numbered_at.true) (c.is_numbered_at.ensures.number c.if-is_numbered_at.true)

pub returns : goal.returns
returns c =
    let parted = IsPartitionedBy-ltb (λ (u : Participant). u.number) c.args.list.now c.args.number (numbers_never_fall c.args.list.now c.requires) in
    let point = IsPartitionPoint-from_clause (λ (u : Participant). ltb u.number c.args.number) _ _ c.partition_point.ensures.partitioned parted (λ a r q k. search rules) in
    record {
      inside = c.partition_point.ensures.bound;
      ahead = λ k u lt. ltb-true _ _ (point.0 k u (omega arith) lt);
      from = λ k u le lt. ltb-false _ _ (point.1 k u le lt);
    }
