use Rattle.std.proofs.Common.{rules, arith, ltb, ltb-true, ltb-false, List, ℕ}
use Rattle.std.proofs.lemmas.List.Sorted.{IsPartitionPoint-from_clause, IsPartitionedBy-ltb}
use Rattle.monitor_search.proofs.known_tasks.first_from.Goals as goal

pub returns : goal.returns
returns c =
    let parted = IsPartitionedBy-ltb (λ (t : ℕ × List ℕ). t.0) c.args.tasks.now c.args.number c.requires in
    let point = IsPartitionPoint-from_clause (λ (t : ℕ × List ℕ). ltb t.0 c.args.number) _ _ c.partition_point.ensures.partitioned parted (λ a r q k. search rules) in
    record {
      inside = c.partition_point.ensures.bound;
      ahead = λ k t lt. ltb-true _ _ (point.0 k t (omega arith) lt);
      from = λ k t le lt. ltb-false _ _ (point.1 k t le lt);
    }
