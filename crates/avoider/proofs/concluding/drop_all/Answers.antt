use Rattle.std.proofs.Common.{◌+◌, ◌∙◌, sym, subst}
use Rattle.board.specs.calls.Seats.{MakesStep, MayDrop}
use Rattle.armus_base.specs.Plans.{Drops}
use Rattle.avoider.proofs.Dropping.{IsDropping, drops_none, drops_one, may_drop_it, phase_same}
use Rattle.avoider.proofs.concluding.drop_all.Goals.{in-Some, in-None}
use Rattle.avoider.proofs.concluding.drop_all.Goals as goal

pub drop_phaser-requires-clause-next : goal.drop_phaser-requires-clause-next
drop_phaser-requires-clause-next c =
    let i = c.loop-q.invariant in
    subst (λ k. MayDrop k c.loop-q.q) (sym c.phase.ensures.seat)
    (may_drop_it c.args.board.now c.args.seat.now c.loop-q.q c.loop-q.seat c.requires.refused i c.in-Some.field-0 (sym c.phase.ensures.phase ∙ c.in-Some.is))

pub loop-q-preserved : goal.loop-q-preserved
loop-q-preserved c =
    let i = c.loop-q.invariant in
    let f = c.args.board.now in
    let first = c.args.seat.now in
    let q = c.loop-q.q in
    let now = c.loop-q.seat in
    let same = sym (phase_same f first q now c.requires.refused i) ∙ sym c.phase.ensures.phase in
    elim c.match-phase.branch [
      | in-Some w ↦
          subst (λ k. IsDropping f first (q + 1) k) (sym w.seat-is)
          (drops_one f first q now c.requires.refused i w.in-Some.field-0 w.drop_phaser.new.self (same ∙ w.in-Some.is)
          (subst (λ k. MakesStep (Drops q) k w.drop_phaser.new.self) c.phase.ensures.seat w.drop_phaser.ensures.step))
      | in-None w ↦
          subst (λ k. IsDropping f first (q + 1) k) (sym (w.seat-is ∙ c.phase.ensures.seat))
          (drops_none f first q now c.requires.refused i (same ∙ w.in-None.is))
    ]
