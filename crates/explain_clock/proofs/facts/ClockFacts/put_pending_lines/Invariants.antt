use Rattle.std.specs.Prelude.{slice_get}
use Rattle.explain_clock.specs.ClockExplanations.{line_if_pending, lines_below}
use Rattle.explain_clock.specs.ClockFacts.{pending_in}
use Rattle.explain_clock.specs.inside.FewLines.{AreWritten}
use Rattle.explain_clock.proofs.facts.ClockFacts.put_pending_lines.Given as goal

abbrev pub invariant-loop-p : goal.invariant-loop-p
invariant-loop-p l =
    AreWritten (lines_below (line_if_pending l.fn.self l.fn.event (pending_in (slice_get l.fn.self.waits l.fn.t))) l.p) l.fn.out.items l.out.items l.count l.p
