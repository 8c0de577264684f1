-- The names of stuck tasks that are known.
use Rattle.std.specs.Prelude.{ℕ, not, List, [], ◌∷◌, Option, Some, None, filter, map}
use Rattle.monitor_words.specs.calls.Values.{first_names}
use Rattle.monitor_words.specs.declared.names.ShownNames.{ShownNames}
use Rattle.monitor_search.specs.Known.{has_stuck_number}

-- those of the first that are not among the second
abbrev pub known_only_in : List (ℕ × List ℕ) → List (ℕ × List ℕ) → List (ℕ × List ℕ)
known_only_in was now = filter (λ t. not (has_stuck_number now t.0)) was

-- their names, where there are any
abbrev pub names_of_known : List (ℕ × List ℕ) → Option ShownNames
names_of_known [] = None
names_of_known (t ∷ ts) = Some (first_names (map (λ u. u.1) (t ∷ ts)))
