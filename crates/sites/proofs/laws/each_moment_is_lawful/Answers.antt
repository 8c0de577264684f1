use Rattle.sites.proofs.OneState.{moment_lawful}
use Rattle.sites.proofs.laws.each_moment_is_lawful.Goals as goal

pub returns : goal.returns
returns c plan mode views at_once = moment_lawful plan mode views at_once
