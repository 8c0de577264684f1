use Rattle.std.proofs.Common.{◌≡◌, ◌∙◌, ap, arith, length, sym}
use Rattle.pl_core.specs.inside.PhaseTables.{phases_in}
use Rattle.pl_core.specs.calls.Worlds.{state_of}
use Rattle.pl_core.proofs.Bounds.{task_of_member}
use Rattle.pl_core.proofs.HighestKept.{checked_there, reachable_there}
use Rattle.pl_core.proofs.NextBehind.{next_inside, next_same}
use Rattle.pl_core.proofs.world.World.next_behind.Goals as goal

pub returns-clause-next : goal.returns-clause-next
returns-clause-next c =
    let table = c.self.inside.phases in
    let p = c.args.event.p.0 in
    let same : phases_in table ≡ (state_of c.args.self.now).phases = c.self.invariant.kept.phases ∙ ap (λ w. (state_of w).phases) c.self.view_is in
    next_same (λ u. phases_in table u p) (λ u. (state_of c.args.self.now).phases u p) c.args.event.n c.args.from c.next_behind.result (λ u. ap (λ f. f u p) (sym same))
    c.next_behind.ensures

pub returns-clause-inside : goal.returns-clause-inside
returns-clause-inside c =
    let w = c.args.self.now in
    let p = c.args.event.p.0 in
    let kept = c.self.invariant.kept in
    let checked = checked_there c.self.view_is kept in
    next_inside (λ u. (state_of w).phases u p) c.args.event.n c.args.from (length w.plan.parents) c.next_behind.result (let few = checked.limits.few_tasks in omega arith)
    (λ u m at. task_of_member w checked (reachable_there c.self.view_is kept) u p m at) (returns-clause-next c)
