use Rattle.std.proofs.Common.{◌≡◌, false, not, take}
use Rattle.std.specs.List.{list_any}
use Rattle.monitor_search.specs.inside.Leaving.{lives_with_number}
use Rattle.monitor_search.proofs.leaving.some_ended_of.Given as goal

-- all so far live
abbrev pub invariant-loop-k : goal.invariant-loop-k
invariant-loop-k l = list_any (λ k. not (lives_with_number l.state.list k)) (take l.k-index l.tasks) ≡ false
