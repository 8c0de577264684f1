use Rattle.std.proofs.Common.{◌+◌, refl, ap, ◌∙◌}
use Rattle.armus_base.specs.Plans.{Advances}
use Rattle.board.specs.calls.Seats.{Known}
use Rattle.board.specs.calls.Steps.{own_phase}
use Rattle.board.proofs.Stores.{advances}
use Rattle.board.proofs.Seated.{acts_sitting, advanced_phase, makes_step, task_inside}
use Rattle.board.proofs.Called.{is_free, next_here, of_board, own_small, phase_word}
use Rattle.board.proofs.task_seat.TaskSeat.adv.Goals as goal

pub phase_index-index-requires : goal.phase_index-index-requires
phase_index-index-requires c = (own_small c.self.invariant.sitting (c.self.view_is ∙ c.member_phase-phase.ensures.seat) c.requires.made, c.requires.phaser)

pub store-requires : goal.store-requires
store-requires c =
    let s = c.self.view_is ∙ c.member_phase-phase.ensures.seat in
    let i = c.self.invariant.sitting in
    let o = of_board s c.board.view_is c.requires.made in
    let e = c.phase_index-index.ensures in
    let w = phase_word c.self.inside.task.0 c.args.p.0 c.board.view_is c.requires.phaser e.inside e.index in (
      o.table,
      w.inside,
      advances _ _ _ _ _ _ _ _ _ _ (is_free i s c.requires.unlocked) (next_here s c.requires.next) (own_small i refl o) w.few
          (ap (λ (k : Known). own_phase k.view c.args.p.0) s ∙ c.member_phase-phase.ensures.phase) (ap (λ n. n + 2) c.from-word.ensures) w.is,
    )

pub invariant_of-self : goal.invariant_of-self
invariant_of-self c = record {
  no_slot = c.store.ensures.2.1 ∙ c.self.invariant.no_slot;
  sitting = acts_sitting (Advances c.args.p.0) c.self.invariant.sitting (next_here (c.self.view_is ∙ c.member_phase-phase.ensures.seat) c.requires.next)
      (λ q e. cc) (λ q e. cc) (λ q e. cc) c.store.ensures.2.0;
}

pub returns-clause-step : goal.returns-clause-step
returns-clause-step c =
    let s = c.self.view_is ∙ c.member_phase-phase.ensures.seat in
    makes_step (Advances c.args.p.0) s c.self.invariant.sitting (next_here s c.requires.next) c.store.ensures.2.0 c.store.ensures.0

pub member_phase-phase-requires-clause-member : goal.member_phase-phase-requires-clause-member
member_phase-phase-requires-clause-member c = record { action = Advances c.args.p.0; next = c.requires.next; by_member = refl }

pub returns-clause-phase : goal.returns-clause-phase
returns-clause-phase c =
    let i = c.self.invariant.sitting in
    let s = c.self.view_is ∙ c.member_phase-phase.ensures.seat in
    advanced_phase _ _ c.args.p.0 _ (task_inside _ _ i.seat i.task) (next_here s c.requires.next)
    (ap (λ (k : Known). own_phase k.view c.args.p.0) s ∙ c.member_phase-phase.ensures.phase) c.store.ensures.2.0
