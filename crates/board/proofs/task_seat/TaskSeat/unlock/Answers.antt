use Rattle.std.proofs.Common.{false, ap, ◌∙◌, subst, arith}
use Rattle.std.proofs.lemmas.Bool.{false≢true}
use Rattle.board.specs.calls.Seats.{Known}
use Rattle.board.specs.calls.Locking.{FreesLock}
use Rattle.board.proofs.Locking.{frees}
use Rattle.board.proofs.Holding.{frees_lock, locked_sitting}
use Rattle.board.proofs.Called.{of_board}
use Rattle.board.proofs.task_seat.TaskSeat.unlock.Goals as goal

pub store-requires : goal.store-requires
store-requires c =
    let s = c.self.view_is in
    let i = c.self.invariant.sitting in
    let o = of_board s c.board.view_is c.requires.made in
    let key = c.board.inside.cells.shared.key in (
      o.table,
      (let w = c.board.invariant.words in omega arith),
      frees key.plan.value key.mode _ _ _ c.self.inside.task.0 i.task i.seat.live (ap (λ (k : Known). k.view.holds) s ∙ c.requires.locked),
    )

pub invariant_of-self : goal.invariant_of-self
invariant_of-self c = record {
  no_slot = c.store.ensures.2.1 ∙ c.self.invariant.no_slot;
  sitting = locked_sitting c.self.inside.place.table_id c.store.new.seat.table_id c.self.inside.place.me.0 c.store.new.seat.me.0 _ _ _ false
      (λ has. absurd (false≢true has)) c.self.invariant.sitting c.store.ensures.2.0;
}

pub returns : goal.returns
returns c = record {
  freed = subst (λ (k : Known). FreesLock k (record { table = c.store.new.seat.table_id; view = c.store.new.seat.me.0 })) c.self.view_is
      (frees_lock c.self.inside.place.table_id c.store.new.seat.table_id c.self.inside.place.me.0 c.store.new.seat.me.0 c.self.invariant.sitting.seat
      c.store.ensures.2.0 c.store.ensures.0);
}
