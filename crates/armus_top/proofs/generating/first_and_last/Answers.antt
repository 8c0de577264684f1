use Rattle.armus_top.proofs.TwoLines.{both_lines, more_lines}
use Rattle.armus_top.proofs.generating.first_and_last.Goals as goal

pub last_line-last-requires : goal.last_line-last-requires
last_line-last-requires c = record { some = more_lines c.args.report.now c.first_line.result.0.now c.first_line.result.1.now c.requires.lines c.first_line.ensures.cut }

pub returns : goal.returns
returns c =
    record {
      text = both_lines c.args.report.now c.first_line.result.0.now c.first_line.result.1.now c.last_line-last.result.now c.two_lines.result
          c.first_line.ensures.cut c.last_line-last.ensures.last c.two_lines.ensures;
    }
