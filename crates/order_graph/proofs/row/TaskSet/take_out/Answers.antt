use Rattle.std.proofs.Common.{◌≡◌, ◌++◌, arith, length, take, drop}
use Rattle.std.proofs.lemmas.List.{with_items_is}
use Rattle.order_graph.proofs.RowBits.{out_members}
use Rattle.order_graph.proofs.TaskBits.{in_ascends}
use Rattle.order_graph.proofs.row.TaskSet.take_out.Goals as goal

module _ (c : goal.After-self-1) where
  kept : take c.self.inside.words.len (c.clear_bit.new.words ++ drop (length c.clear_bit.new.words) c.self.inside.words.items) ≡ c.clear_bit.new.words
  kept = with_items_is c.self.inside.words c.clear_bit.new.words (omega (arith, c.clear_bit.ensures.bits.sized, c.deref_mut.ensures.len))

pub returns-clause-ascends : goal.returns-clause-ascends
returns-clause-ascends c = rw (kept c) (in_ascends c.clear_bit.new.words)

pub returns-clause-members : goal.returns-clause-members
returns-clause-members c u =
    rw (← c.self.view_is, kept c)
    (out_members c.self.inside.words.items c.self.inside.words.items c.clear_bit.new.words c.args.t (rw c.deref_mut.ensures.value at c.clear_bit.ensures.bits) u)
