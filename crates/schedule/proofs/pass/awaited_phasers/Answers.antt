use Rattle.std.proofs.Common.{◌≡◌, ◌+◌, ◌≤◌, ◌∙◌, subst, sym, ap, arith, length, get_or, IfOk}
use Rattle.schedule.specs.declared.pass.FoundWaiting.{FoundWaiting}
use Rattle.armus_base.specs.Finals.{given_below}
use Rattle.schedule.specs.inside.OpenPasses.{marked_phaser}
use Rattle.schedule.proofs.Marks.{AreMarks, mark_one, mark_none, marks_are}
use Rattle.schedule.proofs.pass.awaited_phasers.Goals as goal
use Rattle.schedule.proofs.pass.awaited_phasers.Goals.{then-p-len, else-p-len}

pub loop-w-preserved : goal.loop-w-preserved
loop-w-preserved c =
    elim c.if-p-len.branch [
      | then-p-len w ↦ subst (λ v. AreMarks v.items c.args.waiting.now c.args.phasers (c.loop-w.w-index + 1)) (sym w.is_awaited-is)
          (mark_one c.loop-w.is_awaited.items c.args.waiting.now c.args.phasers c.loop-w.w-index _ c.loop-w.invariant c.loop-w-test.true
          (let a = c.loop-w.invariant.all in omega arith))
      | else-p-len w ↦
          let d : FoundWaiting = record { t = record { 0 = 0 }; event = record { p = record { 0 = 0 }; n = 0 } } in
          let beyond : c.args.phasers ≤ (get_or c.args.waiting.now c.loop-w.w-index d).event.p.0 = (let a = c.loop-w.invariant.all in omega arith) in
          subst (λ v. AreMarks v.items c.args.waiting.now c.args.phasers (c.loop-w.w-index + 1)) (sym w.is_awaited-is)
          (mark_none c.loop-w.is_awaited.items c.args.waiting.now c.args.phasers c.loop-w.w-index d c.loop-w.invariant c.loop-w-test.true beyond)
    ]

pub returns : goal.returns
returns c =
    let marks = c.loop-w.is_awaited.items in
    let waiting = c.args.waiting.now in
    let ended : c.loop-w.w-index ≡ length waiting = omega arith in
    let there = marks_are marks waiting c.args.phasers (subst (AreMarks marks waiting c.args.phasers) ended c.loop-w.invariant) in
    let all = ap (λ m. given_below (marked_phaser m) (length m)) c.as_slice.ensures.value in
    subst (λ l. IfOk c.listed.result (λ v. v.items ≡ l)) (all ∙ there) c.listed.ensures
