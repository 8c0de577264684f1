use Rattle.std.proofs.Common.{◌≡◌, ◌++◌, take, codes, decimal}
use Rattle.std.specs.List.{flat_map}
use Rattle.schedule.proofs.text.put_dead.Given as goal

abbrev pub invariant-loop-task : goal.invariant-loop-task
invariant-loop-task l = l.out.items ≡ l.initial.out.items ++ flat_map (λ t. codes " t" ++ decimal t.0) (take l.task-index l.dead)
