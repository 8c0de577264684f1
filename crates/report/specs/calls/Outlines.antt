-- The outline of a final state: how its tasks stand.
use Rattle.std.specs.Prelude.{◌≡◌}
use Rattle.armus_base.specs.declared.ending.Final.{Final}
use Rattle.armus_base.specs.Deadlocks.{IsDeadBy}
use Rattle.report.specs.Counts.{counts_of}
use Rattle.report.specs.Lines.{counts_line}
use Rattle.report.specs.Standings.{AreStandings}
use Rattle.report.specs.declared.outline.Outline.{Outline}

-- what the outline says is so in the final state: the standings, and the line that counts them
pub record IsOutline (end : Final) (o : Outline) : Type 0 where
  pub stand : AreStandings (IsDeadBy end.blocked) end.ends o.standings
  pub counts : o.counts ≡ counts_line (counts_of o.standings)
