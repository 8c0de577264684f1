use Rattle.std.proofs.Common.{ℕ, ◌<◌, length, sym, subst}
use mathlib.Core.Option.{none}
use Rattle.atomic_table.specs.Table.{Allows, step}
use Rattle.board.specs.calls.Rule.{IsKept}
use Rattle.board.specs.calls.Views.{found_of}
use Rattle.board.specs.calls.Seats.{Frame, IsOf}
use Rattle.board.specs.calls.Steps.{Watched}
use Rattle.board.proofs.Loading.{watches}
use Rattle.board.proofs.Loaded.{answers_await, watched_told}
use Rattle.board.proofs.place_loads.load_await_by.Goals as goal

pub load-word-requires : goal.load-word-requires
load-word-requires c =
    let b = c.board.view_is in
    let o = subst (IsOf (record { table = c.args.place.now.table_id; view = c.args.place.now.me.0 })) (sym b) c.requires.made in
    let key = c.board.inside.cells.shared.key in
    let slots = c.board.inside.cells.shared.table_id.slots in
    let me = c.args.place.now.me in
    let t = c.args.t.0 in
    let small = subst (λ (f : Frame). t < length f.plan.parents) (sym b) c.requires.task in (
      o.table,
      subst (λ (f : Frame). c.await_index-index.result < f.table.words) (sym b) c.await_index-index.ensures.inside,
      subst (λ (n : ℕ). Allows (IsKept key) slots c.args.place.now.id me n (λ n. n) (Watched (step slots n 0 0 none) me)) (sym c.await_index-index.ensures.index)
          (watches key.plan.value key.mode slots c.args.place.now.id me t c.requires.seat.live o.plan small),
    )

pub seen_of-requires : goal.seen_of-requires
seen_of-requires c =
    let t = watched_told 0 _ _ _ _ c.args.t.0 c.args.board.now c.args.place.now.table_id c.load-word.ensures.2 c.requires.made c.requires.task
    c.await_index-index.ensures.index in (t.0, t.2, t.1)

pub returns : goal.returns
returns c =
    let t = watched_told 0 _ _ _ _ c.args.t.0 c.args.board.now c.args.place.now.table_id c.load-word.ensures.2 c.requires.made c.requires.task
    c.await_index-index.ensures.index in
    record {
      slot = c.load-word.ensures.2.0;
      answer = answers_await c.args.place.now.table_id c.load-word.new.seat.table_id c.args.place.now.me.0 c.load-word.new.seat.me.0 c.args.t.0 t.0
          (found_of c.seen_of.result) c.requires.seat t.3 c.load-word.ensures.0 (c.seen_of.ensures t.0 t.2 t.1);
    }
