use Rattle.std.proofs.Common.{◌∙◌, ◌++◌, ◌<◌, ℕ, List, Option, ap, codes, inr, length, subst, sym}
use Rattle.std.specs.Prelude.{All, option_copied}
use Rattle.armus_base.specs.declared.event.Event.{Event}
use Rattle.armus_base.specs.declared.ids.TaskId.{TaskId}
use Rattle.armus_base.specs.Plans.{Plan}
use Rattle.avoider.specs.calls.Decisions.{IsDecision, IsRefused}
use Rattle.avoider.specs.declared.decision.Decision.{Decision}
use Rattle.avoider.proofs.Supposing.{of_plan, phaser_of_await}
use Rattle.pl_core.specs.calls.Worlds.{state_of}
use Rattle.pl_syntax.specs.Printed.{line}
use Rattle.explain_facts.specs.calls.Known.{kept_layout}
use Rattle.explain_steps.proofs.Pieces.{two_pieces}
use Rattle.explain_avoid.specs.RefusalWords.{going_on_words, left_phasers, refusal_by}
use Rattle.explain_avoid.specs.inside.Freed.{AreThoseBelow, IsFreed}
use Rattle.explain_avoid.proofs.Deciding.{cycle_within}
use Rattle.explain_avoid.proofs.Releasing.{released_are}
use Rattle.explain_avoid.proofs.avoiding.Avoiding.decide.Goals as goal

pub pending_of-requires-clause-phaser : goal.pending_of-requires-clause-phaser
pending_of-requires-clause-phaser c =
    phaser_of_await c.args.self.now.world c.stand.ensures.checked c.stand.ensures.reachable c.args.t.0 c.args.event c.requires.at

pub put_refusal-requires-clause-tasks : goal.put_refusal-requires-clause-tasks
put_refusal-requires-clause-tasks c =
    let old = c.args.self.now.world in
    let is : IsRefused old c.step.new.world c.args.t.0 c.in-Refused.cycle =
    subst (λ (d : Decision). IsDecision old c.step.new.world c.args.t.0 d) c.in-Refused.is c.in_ok-step.ensures.decision in
    let there : All (λ (u : TaskId). u.0 < length old.plan.parents) c.as_slice.result.now =
    subst (λ (xs : List TaskId). All (λ (u : TaskId). u.0 < length old.plan.parents) xs) (sym c.as_slice.ensures.items)
    (cycle_within old c.args.t.0 is.event c.in-Refused.cycle is.cycle) in
    subst (λ (q : Plan). All (λ (u : TaskId). u.0 < length q.parents) c.as_slice.result.now) (sym is.refusal.plan) there

pub returns-clause-decided : goal.returns-clause-decided
returns-clause-decided c =
    let old = c.args.self.now.world in
    let new = c.step.new.world in
    let t = c.args.t.0 in
    let e = c.args.event in
    let file = option_copied c.args.text.now.file in
    let l = kept_layout c.args.text.now.facts.now in
    let p = c.args.text.now.facts.now.program.now in
    let out = c.args.self.now.refusals.items in
    let mid = c.put_refusal.new.out.items in
    let pending = c.in_ok-pending.pending in
    let known = c.in_ok-pending.ensures in
    let cycle = c.in-Refused.cycle in
    let own = (state_of old).phases t e.p.0 in
    let left = left_phasers ((state_of old).phases t) (length old.plan.makers) in
    let is : IsRefused old new t cycle = subst (λ (d : Decision). IsDecision old new t d) c.in-Refused.is c.in_ok-step.ensures.decision in
    let freed = c.in_ok-put_freed-in-Refused.ensures in
    let those : AreThoseBelow (IsFreed new pending.phases.items) (length new.plan.parents) freed.0 =
    subst (λ (xs : List (Option ℕ)). AreThoseBelow (IsFreed new xs) (length new.plan.parents) freed.0) c.deref.ensures.value freed.1 in
    inr (
      cycle,
      is,
      freed.0,
      released_are old new t is.refusal (of_plan old c.stand.ensures.checked c.stand.ensures.reachable) pending.phases.items known.phases freed.0 those,
      λ ops stand.
          two_pieces out mid c.put_freed.new.out.items (refusal_by file l p t e own ops cycle.tasks left) (line (codes "  thereby " ++ going_on_words p freed.0))
          (c.in_ok-put_refusal-in-Refused.ensures ops stand
          ∙ ap (λ (d : Event). out ++ refusal_by file l p t d pending.phase ops c.as_slice.result.now pending.members.items) known.event
          ∙ ap (λ (o : Option ℕ). out ++ refusal_by file l p t e o ops c.as_slice.result.now pending.members.items) known.phase
          ∙ ap (λ (us : List TaskId). out ++ refusal_by file l p t e own ops us pending.members.items) c.as_slice.ensures.items
          ∙ ap (λ (qs : List ℕ). out ++ refusal_by file l p t e own ops cycle.tasks qs) known.members)
          freed.2,
    )
