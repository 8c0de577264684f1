-- What lists of places, tasks and finds say.
use mathlib.Core.Path.{fun_ext}
use Rattle.std.proofs.Common.{◌≡◌, ℕ, ◌<◌, List, length, set, sym, ap, ◌∙◌, get_or-set_same, get_or-set_other, inl, inr}
use Rattle.std.proofs.lemmas.Bool.{cases_eq}
use Rattle.armus_base.specs.Plans.{Action, Advances, Blocks, Drops, Forks, Makes, Passes, Refuses, Registers}
use Rattle.armus_base.specs.States.{updated}
use Rattle.armus_base.specs.Runs.{Place, first_place, next_place}
use Rattle.armus_base.specs.calls.Seats.{seen_after_step}
use Rattle.armus_base.proofs.Steps.{updated_other, updated_same}
use Rattle.board.specs.declared.view.View.{View}
use Rattle.board.specs.calls.Views.{own_place, place_in, seen, task_of}
use Rattle.board.specs.calls.Steps.{after_action}

-- one place in a list of places
pub set_place : (places : List Place) (t : ℕ) (a : Place) → t < length places → place_in (set places t a) ≡ updated (place_in places) t a
set_place places t a within = fun_ext (λ u. elim (cases_eq u t) [
  | inl e ↦
      ap (place_in (set places t a)) e ∙ get_or-set_same places t a first_place within ∙ sym (updated_same (place_in places) t u a e)
  | inr n ↦ get_or-set_other places t u a first_place n ∙ sym (updated_other (place_in places) t u a n)
])

-- what is seen after an own action
pub seen_stepped : (x : Action) (v : View) → task_of v < length v.sight.places → seen (after_action x v) ≡ seen_after_step (task_of v) x (seen v)
seen_stepped (Makes p) v w i = record (seen (after_action (Makes p) v))
    { places = set_place v.sight.places (task_of v) (next_place (own_place v).done (own_place v).dropped (Makes p)) w i }
seen_stepped (Registers c p) v w i = record (seen (after_action (Makes p) v))
    { places = set_place v.sight.places (task_of v) (next_place (own_place v).done (own_place v).dropped (Registers c p)) w i }
seen_stepped (Forks c) v w i = record (seen (after_action (Makes 0) v))
    { places = set_place v.sight.places (task_of v) (next_place (own_place v).done (own_place v).dropped (Forks c)) w i }
seen_stepped (Advances p) v w i = record (seen (after_action (Makes p) v))
    { places = set_place v.sight.places (task_of v) (next_place (own_place v).done (own_place v).dropped (Advances p)) w i }
seen_stepped (Drops p) v w i = record (seen (after_action (Makes p) v))
    { places = set_place v.sight.places (task_of v) (next_place (own_place v).done (own_place v).dropped (Drops p)) w i }
seen_stepped (Blocks a) v w i = record (seen (after_action (Blocks a) v))
    { places = set_place v.sight.places (task_of v) (next_place (own_place v).done (own_place v).dropped (Blocks a)) w i }
seen_stepped (Passes p) v w i = record (seen (after_action (Passes p) v))
    { places = set_place v.sight.places (task_of v) (next_place (own_place v).done (own_place v).dropped (Passes p)) w i }
seen_stepped (Refuses a) v w i = record (seen (after_action (Makes 0) v))
    { places = set_place v.sight.places (task_of v) (next_place (own_place v).done (own_place v).dropped (Refuses a)) w i }
