use Rattle.std.proofs.Common.{◌≡◌, ◌<◌, ◌++◌, [], List, length, get_or, reverse}
use Rattle.armus_base.specs.declared.ids.TaskId.{TaskId}
use Rattle.explain_deadlock.specs.inside.Searches.{AreWays}
use Rattle.explain_deadlock.proofs.circle.way_to.Given as goal

abbrev pub invariant-back : goal.invariant-back
invariant-back l = record {
  inside : l.at < length l.search.queue.items;
  way : (t : TaskId) (ways : List (List TaskId)) → AreWays t l.search.queue.items l.search.parents.items ways →
      get_or ways l.place [] ≡ get_or ways l.at [] ++ reverse l.way.items;
}

abbrev pub decreases-back : goal.decreases-back
decreases-back l = l.at
