use Rattle.std.proofs.Common.{◌≡◌, ℕ, ◌<◌, [], get_or, replicate}
use Rattle.std.specs.Prelude.{vec_len}
use Rattle.armus_base.specs.declared.ids.TaskId.{TaskId}
use Rattle.order_graph.proofs.order.Order.start.Given as goal

abbrev pub invariant-loop-t : goal.invariant-loop-t
invariant-loop-t l = record {
  positions_sized : vec_len l.positions ≡ l.t;
  at_sized : vec_len l.at ≡ l.t;
  positions : (k : ℕ) → k < l.t → get_or l.positions.items k 0 ≡ k;
  at : (k : ℕ) (d : TaskId) → k < l.t → get_or l.at.items k d ≡ record { 0 = k };
  rows : l.rows.items ≡ replicate l.t [];
}
