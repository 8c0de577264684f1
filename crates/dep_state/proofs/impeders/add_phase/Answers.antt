use Rattle.std.proofs.Common.{◌≡◌, ◌<◌, sym, subst, arith, inl, inr}
use Rattle.std.proofs.lemmas.Bool.{cases_eq}
use Rattle.dep_state.specs.inside.Made.{IsPhaseBelow, nth_event}
use Rattle.dep_state.proofs.AddedRows.{added_none, added_more, after_below, below_after}
use Rattle.dep_state.proofs.impeders.add_phase.Goals as goal

pub run-init : goal.run-init
run-init c =
    let first = c.first_after-i.ensures in
    record {
      inside = first.inside;
      after = first.from;
      added = added_none _ _ _ (λ j h. below_after c.args.member _ h.1 (first.ahead j h.0));
    }

pub run-preserved : goal.run-preserved
run-preserved c =
    let inv = c.run.invariant in
    let es = c.args.events.now in
    let m = c.args.member in
    record {
      inside = omega arith;
      after = λ j le lt. inv.after j (omega arith) lt;
      added = added_more (λ j. (j < c.run.i) × IsPhaseBelow m (nth_event es j)) (λ j. j ≡ c.run.i) _ _ _ _ _ inv.added c.in_ok-push_to.ensures
          (λ j lt h. elim (cases_eq j c.run.i) [ inl e ↦ inr e | inr ne ↦ inl (omega arith, h.1) ])
          (λ j lt h. ((omega arith, h.1), λ e. omega (arith, h.0, e)))
          (λ j lt e. (
            omega (arith, e),
            subst (λ i. IsPhaseBelow m (nth_event es i)) (sym e)
                (after_below m (nth_event es c.run.i) (inv.after c.run.i (omega arith) (omega arith)) c.if-events-i.true),
          ));
    }
