use Rattle.armus_base.proofs.laws.seats.least_state.Goals as goal
use Rattle.armus_base.proofs.EarlierPlaces.{earlier_places}
use Rattle.armus_base.proofs.KnownAreLeastDead.{known_are_least_dead}
use Rattle.armus_base.proofs.LeastExists.{least_exists}
use Rattle.armus_base.proofs.LeastLawful.{earlier_is_lawful, least_lawful_exists}

pub returns : goal.returns
returns c = record {
  earlier = earlier_is_lawful;
  least = least_lawful_exists;
  earlier_run = earlier_places;
  least_run = least_exists;
  dead_after_it = known_are_least_dead;
}
