use Rattle.std.proofs.Common.{◌∙◌, inr}
use Rattle.clock_pl.specs.calls.ClockPlanning.{as_fault}
use Rattle.explain.proofs.ClockEnds.{fails_so}
use Rattle.explain.proofs.clocks.refuse_unfolding.Goals as goal

pub returns : goal.returns
returns c =
    let program = c.args.program.now.body in
    let fault = as_fault c.args.fault in
    record {
      refusal = (
        c.refused.ensures.status,
        inr (program, fault, c.requires.reads, fails_so program fault c.requires.fails, c.refused.ensures.lines ∙ c.in_ok-lines.ensures),
      );
    }
