use Rattle.std.proofs.Common.{◌≡◌, drop}
use Rattle.explain_clock.specs.ClockMends.{mends}
use Rattle.explain_clock.proofs.facts.ClockFacts.put_mends.Given as goal

abbrev pub invariant-loop-i : goal.invariant-loop-i
invariant-loop-i l = record {
  nothing : l.out.items ≡ l.initial.out.items;
  left : mends l.self l.first (drop l.i l.circle) ≡ mends l.self l.first l.circle;
}
