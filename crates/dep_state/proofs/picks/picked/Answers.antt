use Rattle.std.proofs.Common.{◌≡◌, length, arith, ◌∙◌, get_or, ap}
use Rattle.std.proofs.lemmas.List.{get_or_default}
use Rattle.armus_base.specs.declared.ids.TaskId.{TaskId}
use Rattle.dep_state.proofs.PickedTasks.{skip, skip_list, pick, pick_ascends, pick_list}
use Rattle.dep_state.proofs.picks.picked.Goals as goal
use Rattle.dep_state.proofs.picks.picked.Goals.{then-answers-i+in_ok-push, else-answers-i}

pub loop-i-preserved : goal.loop-i-preserved
loop-i-preserved c =
    let inv = c.loop-i.invariant in
    elim c.if-answers-i.branch [
      | then-answers-i+in_ok-push w ↦
          let x : TaskId = get_or c.args.tasks.now c.loop-i.i (record { 0 = 0 }) in
          let at = get_or_default c.args.tasks.now c.loop-i.i x (record { 0 = 0 }) (omega arith) in
          let e = ap (λ v. v.items) w.picked-is ∙ w.in_ok-push.ensures.items in
          record {
            list = e ∙ pick_list c.args.tasks.now c.args.answers.now c.loop-i.picked.items c.loop-i.i _ at (omega arith) w.if-answers-i.true inv.list;
            ascends = rw e (pick_ascends _ _ _ _ inv.exact x at (omega arith) inv.ascends);
            exact = rw e (pick _ _ _ _ inv.exact x at (omega arith) w.if-answers-i.true);
          }
      | else-answers-i w ↦
          let e = ap (λ v. v.items) w.picked-is in
          record {
            list = e ∙ skip_list c.args.tasks.now c.args.answers.now c.loop-i.picked.items c.loop-i.i w.if-answers-i.false inv.list;
            ascends = rw e inv.ascends;
            exact = rw e (skip _ _ _ _ inv.exact w.if-answers-i.false);
          }
    ]

pub returns : goal.returns
returns c =
    let n : c.loop-i.i ≡ length c.args.tasks.now = omega arith in
    record { list = rw n at c.loop-i.invariant.list; ascends = c.loop-i.invariant.ascends; exact = rw n at c.loop-i.invariant.exact }
