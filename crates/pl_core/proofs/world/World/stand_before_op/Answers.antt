use Rattle.std.proofs.Common.{◌≡◌, Some, ap, ◌∙◌}
use Rattle.armus_base.specs.Plans.{Blocks}
use Rattle.pl_core.specs.inside.Ops.{action_of}
use Rattle.pl_core.specs.calls.Worlds.{action_by_code}
use Rattle.pl_core.proofs.GoingOn.{legal_when_active, phase_when_active, phaser_of_awaited}
use Rattle.pl_core.proofs.world.World.stand_before_op.Goals as goal

pub own_event-requires-clause-phaser : goal.own_event-requires-clause-phaser
own_event-requires-clause-phaser c =
    let next : action_by_code c.args.self.now c.args.t.0 ≡ Some (Blocks (record { phaser = c.in-Some-Await.p.0; off = c.in-Some-Await.off })) =
    c.in-Some-Await.ensures.next ∙ ap (λ op. Some (action_of op)) c.in-Some-Await.field-0-is in
    phaser_of_awaited c.args.self.now c.next_op.ensures.checked c.next_op.ensures.reachable c.args.t.0 (record { phaser = c.in-Some-Await.p.0; off = c.in-Some-Await.off })
    (legal_when_active c.args.self.now c.next_op.ensures.checked c.next_op.ensures.reachable c.args.t.0
    (Blocks (record { phaser = c.in-Some-Await.p.0; off = c.in-Some-Await.off })) c.requires.active next)

pub own_event-requires-clause-member : goal.own_event-requires-clause-member
own_event-requires-clause-member c =
    let next : action_by_code c.args.self.now c.args.t.0 ≡ Some (Blocks (record { phaser = c.in-Some-Await.p.0; off = c.in-Some-Await.off })) =
    c.in-Some-Await.ensures.next ∙ ap (λ op. Some (action_of op)) c.in-Some-Await.field-0-is in
    (legal_when_active c.args.self.now c.next_op.ensures.checked c.next_op.ensures.reachable c.args.t.0
    (Blocks (record { phaser = c.in-Some-Await.p.0; off = c.in-Some-Await.off })) c.requires.active next).1

pub own_event-requires-clause-near : goal.own_event-requires-clause-near
own_event-requires-clause-near c =
    λ n e. phase_when_active c.args.self.now c.next_op.ensures.checked c.next_op.ensures.reachable c.args.t.0 c.in-Some-Await.p.0 n c.requires.active e
