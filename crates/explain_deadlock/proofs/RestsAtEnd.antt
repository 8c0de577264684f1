-- Where a maximal run has ended, no task that waits may go on.
use Rattle.std.proofs.Common.{List, ap, subst, refl}
use Rattle.armus_base.specs.declared.ending.TaskEnd.TheVariants.{Blocked}
use Rattle.armus_base.specs.CheckedPlans.{IsCheckedPlan}
use Rattle.armus_base.specs.calls.FinalLaws.{Tells}
use Rattle.armus_base.specs.Finals.{end_by}
use Rattle.armus_base.specs.Places.{done_by}
use Rattle.armus_base.specs.Plans.{Plan}
use Rattle.armus_base.specs.Runs.{IsLegalRun, IsMaximal, places, state_after}
use Rattle.armus_base.specs.States.{Step}
use Rattle.armus_base.proofs.EndsTell.{ends_tell}
use Rattle.explain_facts.specs.RunStates.{IsReachedState}
use Rattle.explain_deadlock.specs.calls.RunEnds.{WaitersStay}

pub rests_at_end : (plan : Plan) (h : List Step) → IsCheckedPlan plan → IsLegalRun plan h → IsMaximal plan h → WaitersStay (state_after h)
rests_at_end plan h checked run maximal t e published reached =
    let here = state_after h in
    let tells : Tells plan h t (Blocked e) =
    subst (Tells plan h t) (ap (λ o. end_by (here.forked t) o (here.refused t)) published) (ends_tell plan h t checked run maximal) in
    tells.1 reached

-- a run leads to the state after its steps
pub leads_there : (plan : Plan) (h : List Step) → IsLegalRun plan h → IsReachedState plan (state_after h) (done_by (places h))
leads_there plan h run = record { steps = h; run = run; there = refl; counts = λ t. refl }
