use Rattle.std.proofs.Common.{◌≡◌, ℕ, ◌<◌, length, get_or, false, take}
use Rattle.explain_deadlock.specs.ImpederLines.{is_forker_of}
use Rattle.explain_deadlock.proofs.impeder_lines.forker_marks.Given as goal

abbrev pub invariant-loop-t : goal.invariant-loop-t
invariant-loop-t l = record {
  sized : length l.marks.items ≡ length l.facts.standings;
  each : (u : ℕ) → u < length l.facts.standings → get_or l.marks.items u false ≡ is_forker_of l.facts (take l.t-index l.tasks) u;
}
