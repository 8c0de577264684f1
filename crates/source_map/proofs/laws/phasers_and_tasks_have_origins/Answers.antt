use Rattle.source_map.proofs.CodesOfVisits.{makers_are_of_visits, parents_are_of_visits}
use Rattle.source_map.proofs.MadeByVisits.{phasers_have_origins, tasks_have_origins}
use Rattle.source_map.proofs.laws.phasers_and_tasks_have_origins.Goals as goal

pub returns : goal.returns
returns c = record { makers = makers_are_of_visits; parents = parents_are_of_visits; phasers = phasers_have_origins; tasks = tasks_have_origins }
