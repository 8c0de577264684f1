use Rattle.std.proofs.Common.{◌≡◌, ◌∙◌, ◌<◌, ◌+◌, ℕ, List, Option, arith, ap, subst, sym, length, true}
use Rattle.armus_base.specs.calls.StatusLists.{is_marked}
use Rattle.armus_base.specs.States.{updated}
use Rattle.board.specs.calls.Seats.{Known}
use Rattle.board.specs.calls.Steps.{own_phase}
use Rattle.phase_scan.specs.inside.Phases.{phase_in}
use Rattle.phase_scan.proofs.Columns.{read_back}
use Rattle.phase_scan.proofs.Supposed.{marked_inside, marked_read, row_with, row_without}
use Rattle.phase_scan.proofs.supposing.own_phases.Goals.{then-marks-number, else-marks-number}
use Rattle.phase_scan.proofs.supposing.own_phases.Goals as goal

pub loop-number-preserved : goal.loop-number-preserved
loop-number-preserved c =
    let i = c.loop-number.invariant in
    let marks = c.args.marks.now in
    let n = c.loop-number.number in
    let own = own_phase c.args.seat.now.view in
    elim c.if-marks-number.branch [
      | then-marks-number w ↦
          let counted : length w.keep.new.phases ≡ length c.loop-number.own.items = w.keep.ensures.count ∙ ap length w.as_mut_slice.ensures.value in
          let items : c.if-marks-number.own.items ≡ w.keep.new.phases =
          ap (λ v. v.items) w.own-is
          ∙ read_back c.loop-number.own.len w.keep.new.phases _ (let many : c.loop-number.own.len ≡ length c.loop-number.own.items = c.loop-number.own.ok.0 in omega arith) in
          let set = w.keep.ensures.set ∙ ap (λ xs. updated (phase_in xs) n w.phase-phase.result) w.as_mut_slice.ensures.value in
          record {
            seat = w.seat-is ∙ w.phase-phase.ensures.seat ∙ i.seat;
            count = ap length items ∙ counted ∙ i.count;
            phases = subst (λ (xs : List (Option ℕ)). (p : ℕ) → p < n + 1 → is_marked marks p ≡ true → phase_in xs p ≡ own p) (sym items)
                (row_with marks own n c.loop-number.own.items i.phases w.keep.new.phases w.phase-phase.result
                (w.phase-phase.ensures.phase ∙ ap (λ (k : Known). own_phase k.view n) i.seat) set);
          }
      | else-marks-number w ↦
          let items = ap (λ v. v.items) w.own-is in
          record {
            seat = w.seat-is ∙ i.seat;
            count = ap length items ∙ i.count;
            phases = subst (λ (xs : List (Option ℕ)). (p : ℕ) → p < n + 1 → is_marked marks p ≡ true → phase_in xs p ≡ own p) (sym items)
                (row_without marks own n c.loop-number.own.items i.phases (marked_read marks n ∙ w.if-marks-number.false));
          }
    ]

pub returns-clause-phases : goal.returns-clause-phases
returns-clause-phases c =
    λ p is.
    let inside = marked_inside c.args.marks.now p is in
    let all = c.requires.phasers in
    let counted = c.phasers-number-end.ensures.counted in
    let past = c.loop-number-test.false in
    c.loop-number.invariant.phases p (omega arith) is
