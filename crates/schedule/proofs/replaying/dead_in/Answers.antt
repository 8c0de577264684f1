use Rattle.std.proofs.Common.{◌∙◌, subst, sym, IfOk}
use Rattle.armus_base.specs.DeadLists.{IsDeadList}
use Rattle.armus_base.specs.calls.Statuses.{IsInOrder}
use Rattle.pl_core.specs.calls.Worlds.{state_of}
use Rattle.schedule.proofs.LineByLine.{statuses_in_order, dead_are_if}
use Rattle.schedule.proofs.replaying.dead_in.Goals as goal

pub dead_of-requires : goal.dead_of-requires
dead_of-requires c =
    let world = c.args.world.now in
    subst IsInOrder (sym (c.as_slice.ensures.items ∙ c.in_ok-list.ensures.statuses)) (statuses_in_order world.plan (state_of world) c.requires.checked)

pub returns : goal.returns
returns c =
    record {
      dead = dead_are_if c.args.world.now c.dead_of.result
          (subst (λ l. IfOk c.dead_of.result (IsDeadList l)) (c.as_slice.ensures.items ∙ c.in_ok-list.ensures.statuses) c.dead_of.ensures);
    }
