use Rattle.std.proofs.Common.{◌≡◌, length, arith, get_or, subst}
use Rattle.std.proofs.lemmas.List.{get_or_default}
use Rattle.armus_base.specs.declared.ids.TaskId.{TaskId}
use Rattle.verdict.specs.inside.DeadWalks.{IsFlags}
use Rattle.verdict.proofs.DeadPlaces.{flags_more}
use Rattle.verdict.proofs.walk.dead_flags.Goals as goal

pub loop-k-preserved : goal.loop-k-preserved
loop-k-preserved c =
    let o : TaskId = record { 0 = 0 } in
    let x : TaskId = get_or c.args.tasks.now c.loop-k.k o in
    let at : get_or c.args.tasks.now c.loop-k.k x ≡ x = get_or_default c.args.tasks.now c.loop-k.k x o (omega arith) in
    rw c.in_ok-push.ensures.items (flags_more _ _ _ _ c.is_among.result x c.loop-k.invariant (omega arith) at c.is_among.ensures)

pub returns : goal.returns
returns c =
    let n : c.loop-k.k ≡ length c.args.tasks.now = omega arith in
    subst (λ m. IsFlags c.args.tasks.now c.args.dead.now m c.loop-k.flags.items) n c.loop-k.invariant
