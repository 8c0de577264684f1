use Rattle.std.proofs.Common.{◌≡◌, take}
use Rattle.monitor_search.proofs.known_tasks.are_same.Given as goal

-- so far
abbrev pub invariant-loop-place : goal.invariant-loop-place
invariant-loop-place l = take l.place l.these ≡ take l.place l.others
