use Rattle.explain_facts.proofs.Witnesses.{drawn_have_names, waiters_have_awaits}
use Rattle.explain_facts.proofs.laws.tasks_are_of_text.Goals as goal

pub returns : goal.returns
returns c = record { awaits = waiters_have_awaits; names = drawn_have_names }
