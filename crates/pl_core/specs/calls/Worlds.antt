-- Worlds: a plan, and how far each task has come; these places fix the state.
use Rattle.std.specs.Prelude.{◌≡◌, ℕ, Bool, true, false, List, Option, Some, None, length, replicate, slice_get}
use Rattle.armus_base.specs.Plans.{Plan, Action, action_at}
use Rattle.armus_base.specs.States.{State, opening}
use Rattle.armus_base.specs.Runs.{Place, first_place}
use Rattle.armus_base.specs.Places.{members_below, phases_after, state_at}
use Rattle.pl_core.specs.declared.place.Place.{Place as KeptPlace}

-- what contracts see of a world
pub record WorldValue : Type 0 where
  pub plan : Plan
  pub places : List KeptPlace

-- of how many phasers task t is a member after its first k actions
abbrev pub memberships : Plan → ℕ → ℕ → ℕ
memberships plan t k = members_below (phases_after plan t k) (length plan.makers)

-- a task that is refused has dropped all its phasers
abbrev pub dropped_at : Plan → ℕ → ℕ → Bool → Option ℕ
dropped_at plan t k true = Some (memberships plan t k)
dropped_at plan t k false = None

-- the place of task t, if there is one; else it has made no step
abbrev pub place_from : Plan → ℕ → Option KeptPlace → Place
place_from plan t None = first_place
place_from plan t (Some a) = record { done = a.events; dropped = dropped_at plan t a.events a.refused }

-- the place of each task
unfoldable pub places_at : Plan → List KeptPlace → ℕ → Place
places_at plan places t = place_from plan t (slice_get places t)

-- the place of each task of a world
abbrev pub places_of : WorldValue → ℕ → Place
places_of w = places_at w.plan w.places

-- the state of a world: the one that its places fix
unfoldable pub state_of : WorldValue → State
state_of w = state_at w.plan (places_of w)

-- the action with which the code of task t goes on
abbrev pub action_by_code : WorldValue → ℕ → Option Action
action_by_code w t = action_at w.plan t (places_of w t).done

-- the opening world of the plan: no task has made an event
pub record IsOpeningWorld (plan : Plan) (w : WorldValue) : Type 0 where
  pub plan_is : w.plan ≡ plan
  pub places : w.places ≡ replicate (length plan.parents) (record { events = 0; refused = false })
  pub state : state_of w ≡ opening
