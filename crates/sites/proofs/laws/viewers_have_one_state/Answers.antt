use Rattle.sites.proofs.OneState.{viewers_lawful}
use Rattle.sites.proofs.laws.viewers_have_one_state.Goals as goal

pub returns : goal.returns
returns c plan views checked each = viewers_lawful plan views checked each
