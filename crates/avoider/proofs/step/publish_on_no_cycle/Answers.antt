use Rattle.avoider.proofs.NobodyDies.{block_kills_nobody}
use Rattle.avoider.proofs.Supposing.{phaser_of_await}
use Rattle.avoider.proofs.step.publish_on_no_cycle.Goals as goal

pub is_on_no_cycle-requires-clause-phaser : goal.is_on_no_cycle-requires-clause-phaser
is_on_no_cycle-requires-clause-phaser c =
    let at = c.event_before-event.ensures in
    phaser_of_await c.args.world.now at.checked at.reachable c.args.t.0 c.event_before-event.result at.before

pub returns-then-is_on_no_cycle-clause-nobody : goal.returns-then-is_on_no_cycle-clause-nobody
returns-then-is_on_no_cycle-clause-nobody c =
    let at = c.event_before-event.ensures in
    block_kills_nobody c.args.world.now c.step.new.self at.checked at.reachable c.args.t.0 c.requires.before.nobody c.event_before-event.result at.before
    (c.is_on_no_cycle.ensures c.if-is_on_no_cycle.true) c.step.ensures
