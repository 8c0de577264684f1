use Rattle.std.proofs.Common.{◌≡◌, ◌∙◌, ◌&&◌, ap, sym, length, arith, subst, ◌<◌}
use Rattle.std.specs.Prelude.{slice_get, slice_index_or, false}
use Rattle.armus_base.specs.Places.{some_before}
use Rattle.armus_base.proofs.Fixed.{some_before_from}
use Rattle.explain_clock.specs.ClockNotes.{is_made_at}
use Rattle.explain_clock.proofs.NotesOfThings.{both_are, used_by_marks}
use Rattle.explain_clock.proofs.text_facts.ClockTextFacts.is_used_at.Goals as goal

pub returns-then-has_mark : goal.returns-then-has_mark
returns-then-has_mark c = λ use_so are.
    sym (some_before_from (λ p. is_made_at c.args.n (slice_get c.args.self.now.things p) && slice_index_or c.args.marks.now p false) (length c.args.plan.now.makers) c.loop-p.p
    (subst (λ n. c.loop-p.p < n) c.phasers-p-end.ensures.counted c.loop-p-test.true)
    (both_are _ _ (sym c.is_made_at.ensures ∙ c.if-is_made_at.true) (sym c.has_mark.ensures ∙ c.if-has_mark.true)))
    ∙ used_by_marks use_so c.args.self.now.things c.args.plan.now c.args.marks.now c.args.n are

pub returns : goal.returns
returns c = λ use_so are.
    let many = c.phasers-p-end.ensures.counted in
    let ended = c.loop-p-test.false in
    let all : c.loop-p.p ≡ length c.args.plan.now.makers = omega (arith, many, ended) in
    sym c.loop-p.invariant
    ∙ ap (some_before (λ p. is_made_at c.args.n (slice_get c.args.self.now.things p) && slice_index_or c.args.marks.now p false)) all
    ∙ used_by_marks use_so c.args.self.now.things c.args.plan.now c.args.marks.now c.args.n are
