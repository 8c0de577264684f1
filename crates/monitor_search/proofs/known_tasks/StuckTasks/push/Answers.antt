use Rattle.std.proofs.Common.{◌≤◌, sym, subst, ℕ, List}
use Rattle.std.specs.Prelude.{Contains}
use Rattle.monitor_search.specs.inside.Numbers.{NeverFall}
use Rattle.monitor_search.proofs.NumberSearch.{pushed_never_falls}
use Rattle.monitor_search.proofs.known_tasks.StuckTasks.push.Goals as goal

pub invariant_of-self-2 : goal.invariant_of-self-2
invariant_of-self-2 c =
    let items = c.self.inside.tasks.items in
    let below = subst (λ (l : List (ℕ × List ℕ)). (t : ℕ × List ℕ) → Contains l t → t.0 ≤ c.args.task.now.number) (sym c.self.view_is) c.requires in
    subst NeverFall (sym c.in_ok-push.ensures.items)
    (pushed_never_falls items (c.number.result, c.in_ok-name.name.items) c.self.invariant (λ t within. subst (λ k. t.0 ≤ k) (sym c.number.ensures) (below t within)))
