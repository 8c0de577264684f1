use Rattle.std.proofs.Common.{◌∙◌, ap, sym}
use Rattle.std.specs.Prelude.{Ok}
use Rattle.armus_base.specs.Finals.{final_of}
use Rattle.armus_base.specs.Plans.{Plan}
use Rattle.pl_core.specs.calls.Worlds.{state_of}
use Rattle.pl_plan.specs.Unfolding.{Outcome}
use Rattle.explain.proofs.checked_clocks.CheckedClocks.standing.Goals as goal

pub clock_explanation_of-requires-clause-plan : goal.clock_explanation_of-requires-clause-plan
clock_explanation_of-requires-clause-plan c =
    c.requires.known.plan ∙ ap (λ (q : Plan). (let plan : Outcome Plan = Ok q in plan)) (sym c.requires.plan)

pub clock_explanation_of-requires-clause-end : goal.clock_explanation_of-requires-clause-end
clock_explanation_of-requires-clause-end c =
    c.requires.end ∙ ap (λ (q : Plan). final_of q (state_of c.args.world.now)) (sym c.requires.plan)
