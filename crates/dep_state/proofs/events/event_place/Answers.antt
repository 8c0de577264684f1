use Rattle.dep_state.proofs.AddedRows.{place_ahead}
use Rattle.dep_state.proofs.events.event_place.Goals as goal

pub returns-clause-inside : goal.returns-clause-inside
returns-clause-inside c = (place_ahead c.args.events.now c.args.event c.first_after.result c.requires.ordered c.first_after.ensures c.requires.there).1

pub returns-clause-there : goal.returns-clause-there
returns-clause-there c = (place_ahead c.args.events.now c.args.event c.first_after.result c.requires.ordered c.first_after.ensures c.requires.there).2
