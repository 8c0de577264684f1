use Rattle.armus_base.proofs.laws.places.lawful_places.Goals as goal
use Rattle.armus_base.proofs.BoardRuns.{lawful_is_reachable, plain_step_is_lawful, avoided_step_is_lawful, opening_is_lawful, taking_is_lawful, freeing_is_lawful}
use Rattle.armus_base.proofs.LawfulPlaces.{lawful_places_are_of}

pub returns : goal.returns
returns c = record {
  reachable = lawful_is_reachable;
  places = lawful_places_are_of;
  opening = opening_is_lawful;
  plain_step = plain_step_is_lawful;
  avoided_step = avoided_step_is_lawful;
  taking = taking_is_lawful;
  freeing = freeing_is_lawful;
}
