-- Turns of tasks in a world.
use Rattle.std.specs.Prelude.{◌≡◌, ℕ, ◌+◌, ◌-◌, false, List, [], ◌∷◌, Some, if◌then◌else◌, length, slice_get}
use Rattle.std.proofs.Common.{suc}
use Rattle.armus_base.specs.Plans.{Plan, actions}
use Rattle.pl_core.specs.declared.place.Place.{Place}
use Rattle.pl_core.specs.calls.Worlds.{WorldValue}

-- no task is refused
abbrev pub NobodyRefused : WorldValue → Type 0
NobodyRefused w = (t : ℕ) (place : Place) → slice_get w.places t ≡ Some place → place.refused ≡ false

-- how many actions task t at this place has left, and one more if it may still be refused
abbrev pub left_at : Plan → ℕ → Place → ℕ
left_at plan t place = (length (actions plan t) - place.events) + (if place.refused then 0 else 1)

-- the sum of these from task t on
abbrev pub left_from : Plan → ℕ → List Place → ℕ
left_from plan t [] = 0
left_from plan t (place ∷ rest) = left_at plan t place + left_from plan (suc t) rest

-- the sum over all tasks; it falls with each event
abbrev pub left_in : WorldValue → ℕ
left_in w = left_from w.plan 0 w.places
