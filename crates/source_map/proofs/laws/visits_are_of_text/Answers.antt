use Rattle.source_map.proofs.TurnedVisits.{turns_are_of_visits}
use Rattle.source_map.proofs.WrittenStatements.{awaits_come_from_awaits, visits_are_of_text as proved}
use Rattle.source_map.proofs.laws.visits_are_of_text.Goals as goal

pub returns : goal.returns
returns c = record { visits = proved; awaits = awaits_come_from_awaits; turns = turns_are_of_visits }
