use Rattle.std.proofs.Common.{◌≡◌, ◌++◌, ◌∙◌, arith, inl, length, subst, take, drop}
use Rattle.std.specs.Prelude.{Contains}
use Rattle.std.proofs.lemmas.List.{with_items_is}
use Rattle.armus_base.specs.declared.ids.TaskId.{TaskId}
use Rattle.order_graph.proofs.OrderRows.{on_err_holds}
use Rattle.order_graph.proofs.RowBits.{put_members, put_within}
use Rattle.order_graph.proofs.TaskBits.{in_ascends, in_same}
use Rattle.order_graph.proofs.row.TaskSet.put.Goals as goal

pub returns-in_err-make_room-clause-ascends : goal.returns-in_err-make_room-clause-ascends
returns-in_err-make_room-clause-ascends c = in_ascends c.make_room.new.words.items

pub returns-in_err-make_room-clause-within : goal.returns-in_err-make_room-clause-within
returns-in_err-make_room-clause-within c u m =
    inl (subst (λ ts. Contains {X = TaskId} ts u) (in_same c.make_room.new.words.items c.self.inside.words.items c.make_room.ensures.same ∙ c.self.view_is) m)

pub returns-in_err-make_room-clause-err : goal.returns-in_err-make_room-clause-err
returns-in_err-make_room-clause-err c =
    on_err_holds c.from_residual.result (in_same c.make_room.new.words.items c.self.inside.words.items c.make_room.ensures.same ∙ c.self.view_is)

module _ (c : goal.After-self-1) where
  kept : take c.make_room.new.words.len (c.set_bit.new.words ++ drop (length c.set_bit.new.words) c.make_room.new.words.items) ≡ c.set_bit.new.words
  kept = with_items_is c.make_room.new.words c.set_bit.new.words (omega (arith, c.set_bit.ensures.bits.sized, c.deref_mut.ensures.len))

pub returns-clause-ascends : goal.returns-clause-ascends
returns-clause-ascends c = rw (kept c) (in_ascends c.set_bit.new.words)

pub returns-clause-within : goal.returns-clause-within
returns-clause-within c =
    rw (← c.self.view_is, kept c) (put_within c.self.inside.words.items c.make_room.new.words.items c.set_bit.new.words c.args.t c.make_room.ensures.same
    (rw c.deref_mut.ensures.value at c.set_bit.ensures.bits))

pub returns-clause-members : goal.returns-clause-members
returns-clause-members c =
    rw (← c.self.view_is, kept c) (put_members c.self.inside.words.items c.make_room.new.words.items c.set_bit.new.words c.args.t c.make_room.ensures.same
    (rw c.deref_mut.ensures.value at c.set_bit.ensures.bits))
