use Rattle.std.proofs.Common.{◌∙◌, subst, sym}
use Rattle.armus_base.specs.calls.Statuses.{IsInOrder}
use Rattle.avoider.proofs.Supposing.{phaser_of_await, supposed_in_order}
use Rattle.avoider.proofs.step.death_if.Goals as goal

pub death_of-requires : goal.death_of-requires
death_of-requires c =
    subst IsInOrder (sym (c.as_slice.ensures.items ∙ c.in_ok-list-in-None.ensures.statuses)) (supposed_in_order c.args.world.now c.stand.ensures.checked c.args.t.0 c.args.event)

pub statuses_if-requires : goal.statuses_if-requires
statuses_if-requires c =
    record { phaser = phaser_of_await c.args.world.now c.stand.ensures.checked c.stand.ensures.reachable c.args.t.0 c.args.event c.requires.before }

pub told_by_walks-requires-clause-phaser : goal.told_by_walks-requires-clause-phaser
told_by_walks-requires-clause-phaser c =
    phaser_of_await c.args.world.now c.stand.ensures.checked c.stand.ensures.reachable c.args.t.0 c.args.event c.requires.before
