use Rattle.std.proofs.Common.{◌∙◌, sym}
use Rattle.board.specs.calls.Views.{found_of}
use Rattle.board.proofs.Loaded.{few_await, loads_sitting}
use Rattle.board.proofs.task_seat.TaskSeatLoads.load_await.Goals as goal

pub invariant_of-self : goal.invariant_of-self
invariant_of-self c =
    let i = c.self.invariant.sitting in
    let load = c.load_await_by.ensures.answer.load in
    let place = c.self.inside.place in
    let now = c.load_await_by.new.place in
    record {
      no_slot = c.load_await_by.ensures.slot ∙ c.self.invariant.no_slot;
      sitting = loads_sitting place.table_id now.table_id place.me.0 now.me.0 _ _ _ _ _ _ i load.same load.seen_now.place.exact load.was
          (few_await place.table_id place.me.0 now.me.0 place.me.0.plan place.me.0.mode c.args.t.0 (found_of c.load_await_by.result) i.seat load)
          (i.scanned_is ∙ sym load.seen_now.scanned) i.idle;
    }
