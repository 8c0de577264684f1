-- The world in which a run ends.
use Rattle.std.proofs.Common.{◌≡◌, ℕ, ◌<◌, false, length, sym, ◌∙◌, subst, refl}
use Rattle.armus_base.specs.CheckedPlans.{IsCheckedPlan}
use Rattle.armus_base.specs.Finals.{final_of}
use Rattle.armus_base.specs.Plans.{Plan}
use Rattle.armus_base.specs.Runs.{IsReachable}
use Rattle.pl_core.specs.calls.Moves.{IsWorldStep}
use Rattle.pl_core.specs.calls.Stands.{IsEnabled}
use Rattle.pl_core.specs.calls.Worlds.{WorldValue, places_of, state_of}
use Rattle.world_runs.specs.calls.EndWorlds.{IsEndWorld, IsWorldEnd}
use Rattle.world_runs.specs.calls.PlainRuns.{IsPlainEnd}
use Rattle.world_runs.specs.declared.ending.WorldEnd.{WorldEnd}
use Rattle.world_runs.specs.inside.Turns.{NobodyRefused}
use Rattle.world_runs.specs.inside.WorldRounds.{HasEndedBy}
use Rattle.world_runs.proofs.WorldRounds.{nobody_goes_on}
use Rattle.world_runs.proofs.Ends.{maximal_there, plain_end, plain_there}

-- a world in which nobody may go on and nobody is refused is one in which a run ends
pub end_world : (w : WorldValue) → IsCheckedPlan w.plan → IsReachable w.plan (places_of w) → NobodyRefused w
    → ((t : ℕ) → t < length w.plan.parents → IsEnabled w t → ⊥) → IsEndWorld w.plan w
end_world w checked reach plain quiet = record {
  plan_is = refl;
  steps = reach.steps;
  run = plain_there w checked reach plain quiet;
  maximal = maximal_there w checked reach plain quiet;
  there = reach.there;
}

world_end : (plan : Plan) (e : WorldEnd) → e.world.plan ≡ plan → NobodyRefused e.world
    → ((t : ℕ) → t < length e.world.plan.parents → IsEnabled e.world t → ⊥) → e.end ≡ final_of e.world.plan (state_of e.world)
    → IsCheckedPlan e.world.plan → IsReachable e.world.plan (places_of e.world) → IsWorldEnd plan e
world_end plan e same plain quiet is checked reach = subst (λ (p : Plan). IsWorldEnd p e) same (record {
  world = end_world e.world checked reach plain quiet;
  value = is;
  plain = subst (IsPlainEnd e.world.plan) (sym is) (plain_end e.world checked reach plain quiet);
})

-- what rounds by the code alone come to, where nobody is refused
pub plain_world_end : (plan : Plan) (w : WorldValue) (e : WorldEnd) → w.plan ≡ plan → HasEndedBy IsWorldStep NobodyRefused w e → IsWorldEnd plan e
plain_world_end plan w e same by =
    world_end plan e (by.same_plan ∙ same) by.kept (nobody_goes_on IsWorldStep e.world (length e.world.plan.parents) e.world false by.last refl) by.value by.checked by.reachable
