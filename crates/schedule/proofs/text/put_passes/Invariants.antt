use Rattle.std.proofs.Common.{◌≡◌, ◌++◌, take}
use Rattle.std.specs.List.{enumerate_from, flat_map}
use Rattle.schedule.specs.Texts.{pass_line}
use Rattle.schedule.proofs.text.put_passes.Given as goal

abbrev pub invariant-loop-at : goal.invariant-loop-at
invariant-loop-at l = l.out.items ≡ l.initial.out.items ++ flat_map (λ (n, v). pass_line n v) (take l.at (enumerate_from 1 l.verdicts))
