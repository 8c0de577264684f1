-- A given place is within its task's code.
use Rattle.std.proofs.Common.{◌≡◌, ℕ, ◌≤◌, List, Some, length, arith, ap}
use Rattle.std.specs.Prelude.{slice_get}
use Rattle.armus_base.specs.Plans.{Plan, actions, actions_of, code_of}
use Rattle.armus_base.specs.CheckedPlans.{IsCheckedPlan}
use Rattle.armus_base.proofs.LawfulPlaces.{has_room}
use Rattle.pl_core.specs.declared.place.Place.{Place as KeptPlace}
use Rattle.pl_core.specs.inside.Reachable.{AreReachable}
use Rattle.pl_core.specs.calls.Worlds.{places_at}
use Rattle.pl_core.proofs.Standing.{place_is}

module _ (plan : Plan) (checked : IsCheckedPlan plan) (places : List KeptPlace) (given : AreReachable plan places) (t : ℕ) (place : KeptPlace)
    (at_place : slice_get places t ≡ Some place) where
  pub done_given : (places_at plan places t).done ≡ place.events
  done_given = ap (λ v. v.done) (place_is plan places t place at_place)

  pub events_within : place.events ≤ length (actions_of (code_of plan t))
  unfolding actions
  events_within =
      let within = (has_room plan checked given.reachable.steps given.reachable.run t).0 in
      let same = ap (λ v. v.done) (given.reachable.there t) in
      let done = done_given in
      omega arith
