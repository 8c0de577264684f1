use Rattle.sites.proofs.Merging.{merged_dead}
use Rattle.sites.proofs.laws.backed_rows_name_the_dead.Goals as goal

pub returns : goal.returns
returns c plan mode views rows list t checked some all backed dead = merged_dead plan mode views rows list checked some all backed t dead
