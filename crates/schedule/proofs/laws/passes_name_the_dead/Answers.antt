use Rattle.schedule.proofs.PassesNameTheDead.{passes_name_the_dead}
use Rattle.schedule.proofs.laws.passes_name_the_dead.Goals as goal

pub returns : goal.returns
returns c = record { named = passes_name_the_dead }
