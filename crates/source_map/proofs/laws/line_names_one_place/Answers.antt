use Rattle.source_map.proofs.Names.{found_is, is_found, one_place}
use Rattle.source_map.proofs.laws.line_names_one_place.Goals as goal

pub returns-clause-found : goal.returns-clause-found
returns-clause-found c = λ line from to. (found_is line from to, is_found line from to)

pub returns-clause-one : goal.returns-clause-one
returns-clause-one c = one_place
