use Rattle.std.proofs.Common.{◌≡◌, None, take}
use Rattle.std.specs.List.{find}
use Rattle.explain_clock.specs.ClockKeepers.{is_move_on}
use Rattle.explain_clock.proofs.facts.next_on.Given as goal

abbrev pub invariant-loop-next : goal.invariant-loop-next
invariant-loop-next l = find (is_move_on l.p.0) (take l.next-index l.ahead) ≡ None
