use Rattle.std.proofs.Common.{◌<◌, length, sym, subst}
use Rattle.board.specs.calls.Seats.{Frame, IsOf}
use Rattle.board.proofs.Loading.{looks}
use Rattle.board.proofs.Loaded.{looked_answers, looked_told}
use Rattle.board.proofs.Called.{phase_word}
use Rattle.board.proofs.place_loads.load_phase_by.Goals as goal

pub load-word-requires : goal.load-word-requires
load-word-requires c =
    let b = c.board.view_is in
    let o = subst (IsOf (record { table = c.args.place.now.table_id; view = c.args.place.now.me.0 })) (sym b) c.requires.made in
    let e = c.phase_index-index.ensures in
    let w = phase_word c.args.t.0 c.args.p.0 b c.requires.phaser e.inside e.index in (
      o.table,
      w.inside,
      looks _ _ _ _ _ _ _ _ c.requires.seat.live o.plan (subst (λ (f : Frame). c.args.t.0 < length f.plan.parents) (sym b) c.requires.task) w.few w.is,
    )

pub phase_of-requires : goal.phase_of-requires
phase_of-requires c = (looked_told 0 _ _ _ _ c.args.t.0 c.args.p.0 c.args.board.now c.args.place.now.table_id c.load-word.ensures.2 c.requires.made c.requires.task
    c.requires.phaser c.phase_index-index.ensures.index).2

pub returns : goal.returns
returns c = record {
  slot = c.load-word.ensures.2.0;
  answer = looked_answers _ _ 0 _ _ _ _ _ _ _ _ c.load-word.ensures.2 c.requires.made c.requires.seat c.requires.task c.requires.phaser
      c.phase_index-index.ensures.index
      c.load-word.ensures.0 c.phase_of.ensures;
}
