use Rattle.explain_check.proofs.TextRefusals.{has_refusal}
use Rattle.explain_check.proofs.laws.text_has_check_refusal.Goals as goal

pub returns : goal.returns
returns c = has_refusal
