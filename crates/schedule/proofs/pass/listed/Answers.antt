use Rattle.std.proofs.Common.{◌∙◌, ◌++◌, ◌∷◌, [], sym, ap}
use Rattle.schedule.proofs.Marks.{marked_more, unmarked_more}
use Rattle.schedule.proofs.pass.listed.Goals as goal
use Rattle.schedule.proofs.pass.listed.Goals.{then-mark+in_ok-push, else-mark}

pub loop-p-preserved : goal.loop-p-preserved
loop-p-preserved c =
    elim c.if-mark.branch [
      | then-mark+in_ok-push w ↦ ap (λ v. v.items) w.all-is ∙ w.in_ok-push.ensures.items ∙ ap (λ l. l ++ record { 0 = c.loop-p.p } ∷ []) c.loop-p.invariant
          ∙ sym (marked_more c.args.marks.now c.loop-p.p c.loop-p-test.true w.if-mark.true)
      | else-mark w ↦ ap (λ v. v.items) w.all-is ∙ c.loop-p.invariant ∙ sym (unmarked_more c.args.marks.now c.loop-p.p c.loop-p-test.true w.if-mark.false)
    ]
