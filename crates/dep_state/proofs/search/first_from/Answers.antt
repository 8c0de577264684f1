use Rattle.std.proofs.Common.{rules, arith, ltb, ltb-true, ltb-false}
use Rattle.std.proofs.lemmas.List.Sorted.{IsPartitionPoint-from_clause, IsPartitionedBy-ltb}
use Rattle.armus_base.specs.declared.ids.TaskId.{TaskId}
use Rattle.dep_state.proofs.TaskSearch.{never_fall}
use Rattle.dep_state.proofs.search.first_from.Goals as goal

pub returns : goal.returns
returns c =
    let parted = IsPartitionedBy-ltb (λ (u : TaskId). u.0) c.args.tasks.now c.args.t.0 (never_fall c.args.tasks.now c.requires) in
    let point = IsPartitionPoint-from_clause (λ (u : TaskId). ltb u.0 c.args.t.0) _ _ c.partition_point.ensures.partitioned parted (λ a r q k. search rules) in
    record {
      inside = c.partition_point.ensures.bound;
      ahead = λ k u lt. ltb-true _ _ (point.0 k u (omega arith) lt);
      from = λ k u le lt. ltb-false _ _ (point.1 k u le lt);
    }
