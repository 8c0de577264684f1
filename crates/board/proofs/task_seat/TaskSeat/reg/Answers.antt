use Rattle.std.proofs.Common.{◌+◌, ◌<◌, length, refl, sym, ap, ◌∙◌, subst}
use Rattle.armus_base.specs.Plans.{Registers}
use Rattle.board.specs.calls.Seats.{Frame, Known}
use Rattle.board.specs.calls.Steps.{own_phase}
use Rattle.board.proofs.Stores.{registers_child}
use Rattle.board.proofs.Seated.{acts_sitting, makes_step}
use Rattle.board.proofs.Called.{is_free, next_here, of_board, phase_word}
use Rattle.board.proofs.task_seat.TaskSeat.reg.Goals as goal

pub store-requires : goal.store-requires
store-requires c =
    let b = c.board.view_is in
    let s = c.self.view_is ∙ c.member_phase-phase.ensures.seat in
    let o = of_board s b c.requires.made in
    let e = c.phase_index-index.ensures in
    let w = phase_word c.args.c.0 c.args.p.0 b c.requires.phaser e.inside e.index in (
      o.table,
      w.inside,
      registers_child _ _ _ _ _ _ _ _ _ _ _ (is_free c.self.invariant.sitting s c.requires.unlocked) (next_here s c.requires.next)
          (subst (λ (f : Frame). c.args.c.0 < length f.plan.parents) (sym b) c.requires.child) w.few
          (ap (λ (k : Known). own_phase k.view c.args.p.0) s ∙ c.member_phase-phase.ensures.phase) (ap (λ n. n + 1) c.from-word.ensures) w.is,
    )

pub invariant_of-self : goal.invariant_of-self
invariant_of-self c = record {
  no_slot = c.store.ensures.2.1 ∙ c.self.invariant.no_slot;
  sitting = acts_sitting (Registers c.args.c.0 c.args.p.0) c.self.invariant.sitting
      (next_here (c.self.view_is ∙ c.member_phase-phase.ensures.seat) c.requires.next)
      (λ q e. cc) (λ q e. cc) (λ q e. cc) c.store.ensures.2.0;
}

pub returns : goal.returns
returns c =
    let s = c.self.view_is ∙ c.member_phase-phase.ensures.seat in record {
      step = makes_step (Registers c.args.c.0 c.args.p.0) s c.self.invariant.sitting (next_here s c.requires.next) c.store.ensures.2.0 c.store.ensures.0;
    }

pub member_phase-phase-requires-clause-member : goal.member_phase-phase-requires-clause-member
member_phase-phase-requires-clause-member c = record { action = Registers c.args.c.0 c.args.p.0; next = c.requires.next; by_member = refl }
