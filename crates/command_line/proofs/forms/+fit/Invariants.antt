use Rattle.std.proofs.Common.{length}
use Rattle.command_line.proofs.forms.+fit.Given as goal

abbrev pub decreases-fit : goal.decreases-fit
decreases-fit l = length l.words.now
