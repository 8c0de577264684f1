use Rattle.armus_base.specs.Plans.{Makes}
use Rattle.board.proofs.Stores.{makes_phaser}
use Rattle.board.proofs.Seated.{acts_sitting, makes_step}
use Rattle.board.proofs.Called.{is_free, next_here, of_board, own_small, phase_word}
use Rattle.std.proofs.Common.{◌∙◌, refl}
use Rattle.board.proofs.task_seat.TaskSeat.make.Goals as goal

pub phase_index-index-requires : goal.phase_index-index-requires
phase_index-index-requires c = (own_small c.self.invariant.sitting c.self.view_is c.requires.made, c.requires.phaser)

pub store-requires : goal.store-requires
store-requires c =
    let s = c.self.view_is in
    let i = c.self.invariant.sitting in
    let o = of_board s c.board.view_is c.requires.made in
    let e = c.phase_index-index.ensures in
    let w = phase_word c.self.inside.task.0 c.args.p.0 c.board.view_is c.requires.phaser e.inside e.index in (
      o.table,
      w.inside,
      makes_phaser _ _ _ _ _ _ _ _ (is_free i s c.requires.unlocked) (next_here s c.requires.next) (own_small i refl o) w.few w.is,
    )

pub invariant_of-self : goal.invariant_of-self
invariant_of-self c = record {
  no_slot = c.store.ensures.2.1 ∙ c.self.invariant.no_slot;
  sitting = acts_sitting (Makes c.args.p.0) c.self.invariant.sitting (next_here c.self.view_is c.requires.next) (λ q e. cc) (λ q e. cc) (λ q e. cc)
      c.store.ensures.2.0;
}

pub returns : goal.returns
returns c = record {
  step = makes_step (Makes c.args.p.0) c.self.view_is c.self.invariant.sitting (next_here c.self.view_is c.requires.next) c.store.ensures.2.0 c.store.ensures.0;
}
