-- What a step and a refusal make of a world.
use Rattle.std.specs.Prelude.{◌≡◌, ℕ, ◌+◌, true, List, [], ◌∷◌, ◌++◌, Some, None, map, slice_get, slice_set}
use Rattle.armus_base.specs.Plans.{Plan, Action, Drops, Refuses, Aim}
use Rattle.armus_base.specs.States.{Step, IsLegal, after}
use Rattle.armus_base.specs.Runs.{Place, IsByCode, moved}
use Rattle.armus_base.specs.Places.{state_at}
use Rattle.pl_core.specs.declared.place.Place.{Place as KeptPlace}
use Rattle.pl_core.specs.calls.Worlds.{WorldValue, places_of, state_of, action_by_code}

-- These steps lead on from the places a to the places b, the last one first: each is legal where it comes, and the next one by its task's code.
abbrev pub LeadsOn : Plan → (ℕ → Place) → List Step → (ℕ → Place) → Type 0
LeadsOn plan a [] b = a ≡ b
LeadsOn plan a (e ∷ h) b =
    (c : ℕ → Place) × LeadsOn plan a h c × IsByCode plan e.task (c e.task).done (c e.task).dropped e.action
    × IsLegal plan (state_at plan c) e.task e.action × moved c e.task e.action ≡ b

-- one event more
abbrev pub further : KeptPlace → KeptPlace
further a = record { events = a.events + 1; refused = a.refused }

-- refused at its next op
abbrev pub refused_there : KeptPlace → KeptPlace
refused_there a = record { events = a.events; refused = true }

-- the kept place of task t has changed by this, and no other task's
pub record ChangesKeptPlace (old new : List KeptPlace) (t : ℕ) (change : KeptPlace → KeptPlace) : Type 0 where
  pub place : KeptPlace
  pub there : slice_get old t ≡ Some place
  pub changed : new ≡ slice_set old t (change place)

-- one step of task t: the next action of its code, which is legal; it leads to the places and to the state after it
pub record IsWorldStep (old new : WorldValue) (t : ℕ) : Type 0 where
  pub action : Action
  pub next : action_by_code old t ≡ Some action
  pub legal : IsLegal old.plan (state_of old) t action
  pub plan : new.plan ≡ old.plan
  pub places : ChangesKeptPlace old.places new.places t further
  pub run : LeadsOn old.plan (places_of old) (record { task = t; action = action } ∷ []) (places_of new)
  pub state : state_of new ≡ after (state_of old) t action

-- the drops of task t from these phasers
abbrev pub drops_from : ℕ → List ℕ → List Step
drops_from t = map (λ p. record { task = t; action = Drops p })

-- a refusal of task t and then its drops, until it is a member of nothing; a refused task may only drop the least of its phasers
pub record MakesRefusal (old new : WorldValue) (t : ℕ) : Type 0 where
  pub aim : Aim
  pub drops : List ℕ  -- the last one first
  pub plan : new.plan ≡ old.plan
  pub places : ChangesKeptPlace old.places new.places t refused_there
  pub run : LeadsOn old.plan (places_of old) (drops_from t drops ++ record { task = t; action = Refuses aim } ∷ []) (places_of new)
  pub left : (p : ℕ) → (state_of new).phases t p ≡ None
