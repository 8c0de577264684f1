use Rattle.std.proofs.Common.{◌≡◌, ◌==◌, ◌&&◌, false, take}
use Rattle.std.specs.List.{list_any}
use Rattle.monitor_search.specs.inside.Leaving.{runs_now}
use Rattle.monitor_search.proofs.leaving.somebody_runs_of.Given as goal

-- none so far
abbrev pub invariant-loop-k : goal.invariant-loop-k
invariant-loop-k l = list_any (λ k. list_any (λ u. runs_now u.condition && u.number == k) l.state.list) (take l.k-index l.tasks) ≡ false
