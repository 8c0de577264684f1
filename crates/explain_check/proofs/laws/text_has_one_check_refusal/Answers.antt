use Rattle.explain_check.proofs.OneRefusal.{one_refusal}
use Rattle.explain_check.proofs.laws.text_has_one_check_refusal.Goals as goal

pub returns : goal.returns
returns c = one_refusal
