use Rattle.std.proofs.Common.{rules, arith, ltb, ltb-true, ltb-false}
use Rattle.std.proofs.lemmas.List.Sorted.{IsPartitionPoint-from_clause, IsPartitionedBy-ltb}
use Rattle.pl_core.specs.declared.cell.Cell.{Cell}
use Rattle.pl_core.proofs.CellOrder.{ahead_of, from_on, never_fall}
use Rattle.pl_core.proofs.cell.first_from.Goals as goal

pub returns : goal.returns
returns c =
    let parted = IsPartitionedBy-ltb (λ (u : Cell). u.task) c.args.cells.now c.args.t (never_fall c.args.cells.now c.requires) in
    let point = IsPartitionPoint-from_clause (λ (u : Cell). ltb u.task c.args.t) _ _ c.partition_point.ensures.partitioned parted (λ a r q k. search rules) in
    record {
      ahead = ahead_of c.args.cells.now c.args.t c.partition_point.result (λ k u lt. ltb-true _ _ (point.0 k u (omega arith) lt));
      from = from_on c.args.cells.now c.args.t c.partition_point.result (λ k u le lt. ltb-false _ _ (point.1 k u le lt));
    }
