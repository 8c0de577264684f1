use Rattle.std.proofs.Common.{◌∙◌, ap, Some, sym}
use Rattle.pl_core.specs.inside.Ops.{action_of}
use Rattle.explain_steps.proofs.Phases.{phase_has_room, phaser_advanced, phaser_registered}
use Rattle.explain_steps.proofs.changes.put_op.Goals as goal

pub phase-phase-requires-clause-phaser : goal.phase-phase-requires-clause-phaser
phase-phase-requires-clause-phaser c =
    phaser_registered c.args.world.now c.plan-plan.ensures.checked c.plan-plan.ensures.reachable c.args.t.0 c.requires.active c.in-Reg.p.0 c.in-Reg.c.0
    (c.requires.next ∙ ap (λ op. Some (action_of op)) c.in-Reg.is)

pub phase-phase-requires-in-Adv-clause-phaser : goal.phase-phase-requires-in-Adv-clause-phaser
phase-phase-requires-in-Adv-clause-phaser c =
    phaser_advanced c.args.world.now c.plan-plan.ensures.checked c.plan-plan.ensures.reachable c.args.t.0 c.requires.active c.in-Adv.p.0
    (c.requires.next ∙ ap (λ op. Some (action_of op)) c.in-Adv.is)

pub put_adv-requires-clause-room : goal.put_adv-requires-clause-room
put_adv-requires-clause-room c = λ n is.
    phase_has_room c.args.world.now c.plan-plan.ensures.checked c.plan-plan.ensures.reachable c.args.t.0 c.requires.active c.in-Adv.p.0 n
    (sym c.phase-phase-in-Adv.ensures.phase ∙ is)
