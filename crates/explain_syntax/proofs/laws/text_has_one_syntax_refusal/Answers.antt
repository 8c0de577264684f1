use Rattle.explain_syntax.proofs.SomeStand.{one_refusal, some_refusal}
use Rattle.explain_syntax.proofs.laws.text_has_one_syntax_refusal.Goals as goal

pub returns-clause-one : goal.returns-clause-one
returns-clause-one c = one_refusal

pub returns-clause-some : goal.returns-clause-some
returns-clause-some c = some_refusal
