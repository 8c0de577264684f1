use Rattle.std.proofs.Common.{◌≡◌, ◌-◌, ◌≤◌, length}
use Rattle.clock_syntax.specs.Grammar.{clock_scan}
use Rattle.explain_clock.specs.ClockStands.{stand_in_front, stand_before}
use Rattle.explain_clock.proofs.stand.stand_in_front.Given as goal

abbrev pub invariant-loop : goal.invariant-loop
invariant-loop l = record {
  short : length l.rest ≤ length l.places;
  same : stand_before (length l.places - l.counter) (clock_scan l.places) l.at l.rest l.stand ≡ stand_in_front l.places l.at;
}
