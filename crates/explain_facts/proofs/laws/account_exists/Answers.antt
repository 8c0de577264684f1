use Rattle.explain_facts.proofs.AccountExists.{account_exists}
use Rattle.explain_facts.proofs.laws.account_exists.Goals as goal

pub returns : goal.returns
returns c = account_exists
