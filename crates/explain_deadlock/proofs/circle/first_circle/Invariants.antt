use Rattle.std.proofs.Common.{◌≡◌, ◌-◌, ◌≤◌, [], length}
use Rattle.armus_base.specs.declared.ids.TaskId.{TaskId}
use Rattle.pl_core.specs.calls.Worlds.{state_of}
use Rattle.explain_deadlock.specs.Verdicts.{followers_of}
use Rattle.explain_deadlock.specs.inside.Searches.{IsSearched}
use Rattle.explain_deadlock.proofs.circle.first_circle.Given as goal

abbrev pub invariant-search : goal.invariant-search
invariant-search l = record {
  sized : length l.search.seen.items ≡ length l.world.plan.parents;
  within : l.at ≤ length l.search.queue.items;
  searched : IsSearched (λ (u : TaskId). followers_of l.facts (state_of l.world).phases u.0) l.t l.at [] l.search.queue.items l.search.parents.items l.search.seen.items;
}

abbrev pub decreases-search : goal.decreases-search
decreases-search l = length l.world.plan.parents - l.at
