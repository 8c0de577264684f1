-- The numbers of those who are there, by name.
use Rattle.std.specs.Prelude.{◌≡◌, ℕ, true, false, List, Option, None, Some, Contains, bytes_eq, find}
use Rattle.std.specs.Global.{Vec}
use Rattle.std.specs.HashMap.{HashMap, get_by}
use Rattle.std.specs.List.{list_any}
use Rattle.std.specs.Option.{option_map}
use Rattle.monitor_laws.specs.States.{Participant, is_there_as}
use Rattle.monitor_laws.specs.Lawful.{AreAscending}
use Rattle.monitor_state.specs.inside.FirstPlaces.{IsFirstAt}
use Rattle.monitor_state.specs.inside.Players.{participant_number}

-- the number that a name has
abbrev pub number_by_name : {S : Type 0} → HashMap (Vec ℕ) ℕ S → List ℕ → Option ℕ
number_by_name numbers t = get_by (λ k. bytes_eq t k.items) numbers

-- each name has the number of who is there with it
abbrev pub HasNumbersOf : List Participant → (List ℕ → Option ℕ) → Type 0
HasNumbersOf us number = (t : List ℕ) → number t ≡ option_map participant_number (find (is_there_as t) us)

-- where who is there with the name t stands, if somebody is there with it
abbrev pub IsPlaceOfName : List Participant → List ℕ → Option ℕ → Type 0
IsPlaceOfName us t None = list_any (is_there_as t) us ≡ false
IsPlaceOfName us t (Some i) = IsFirstAt (is_there_as t) us i

-- numbers ascend, and no two who are there have one name
pub record HasEachNameOnce (us : List Participant) : Type 0 where
  pub ascending : AreAscending us
  pub one_name : (t : List ℕ) (u v : Participant) → Contains us u → Contains us v → is_there_as t u ≡ true → is_there_as t v ≡ true → u ≡ v
