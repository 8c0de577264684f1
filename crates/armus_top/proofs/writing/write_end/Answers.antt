use Rattle.std.proofs.Common.{refl, subst}
use Rattle.clock_pl.specs.ClockLines.{clock_fault_line}
use Rattle.report.specs.Refusals.{refusal_text}
use Rattle.armus_top.specs.inside.Answers.{IsEndOf}
use Rattle.armus_top.proofs.Answering.{by_refusal}
use Rattle.armus_top.proofs.writing.write_end.Goals as goal

pub returns-in-Refused-clause-done : goal.returns-in-Refused-clause-done
returns-in-Refused-clause-done g c command input is =
    by_refusal command input (refusal_text c.in-Refused.why) _ _ (subst (IsEndOf command input) c.in-Refused.is is) c.refuse.ensures.done

pub returns-in-Clock-clause-done : goal.returns-in-Clock-clause-done
returns-in-Clock-clause-done g c command input is =
    by_refusal command input (clock_fault_line c.in-Clock.fault.kind c.in-Clock.fault.statement) _ _ (subst (IsEndOf command input) c.in-Clock.is is)
    c.refuse_clocks.ensures.done
