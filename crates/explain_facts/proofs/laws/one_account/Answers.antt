use Rattle.explain_facts.proofs.OneAccount.{one_account}
use Rattle.explain_facts.proofs.laws.one_account.Goals as goal

pub returns : goal.returns
returns c = one_account
