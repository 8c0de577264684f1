use Rattle.explain_facts.proofs.Witnesses.{statements_have_places}
use Rattle.explain_facts.proofs.laws.statements_have_places.Goals as goal

pub returns : goal.returns
returns c = statements_have_places
