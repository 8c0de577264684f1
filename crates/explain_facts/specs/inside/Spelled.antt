-- Names that are kept where they stand, and how often one has come.
use Rattle.std.specs.Prelude.{◌≡◌, ℕ, List, ◌++◌, filter, length, map, nat_lt, not}
use Rattle.std.specs.Borrow.{Bor}
use Rattle.std.specs.List.{list_any}
use Rattle.std.specs.Str.{bytes_eq}
use Rattle.explain_facts.specs.Names.{is_sole}
use Rattle.explain_facts.specs.declared.names.GivenName.{GivenName}

-- names that are kept, as they are written
abbrev pub spellings : List (Bor (List ℕ)) → List (List ℕ)
spellings names = map (λ (x : Bor (List ℕ)). x.now) names

-- how often a name is among these
abbrev pub occurrences : List (List ℕ) → List ℕ → ℕ
occurrences all x = length (filter (bytes_eq x) all)

-- one list has the names that have come, the other one those that have come more than once
pub record AreSeen (come : List (List ℕ)) (seen again : List (List ℕ)) : Type 0 where
  pub once : (x : List ℕ) → list_any (bytes_eq x) seen ≡ nat_lt 0 (occurrences come x)
  pub twice : (x : List ℕ) → list_any (bytes_eq x) again ≡ nat_lt 1 (occurrences come x)

-- these names have come behind those that had
abbrev pub NotesNames : List (List ℕ) → List (List ℕ) → List (List ℕ) → List (List ℕ) → List (List ℕ) → Type 0
NotesNames names seen again seen' again' = (come : List (List ℕ)) → AreSeen come seen again → AreSeen (come ++ names) seen' again'

-- these are just the names that are among all of them more than once
abbrev pub AreShared : List (List ℕ) → List (List ℕ) → Type 0
AreShared all shared = (x : List ℕ) → not (list_any (bytes_eq x) shared) ≡ is_sole all x

-- a name, which is the sole one unless it is shared
abbrev pub name_by_shared : List (List ℕ) → List ℕ → GivenName
name_by_shared shared x = record { name = x; is_sole = not (list_any (bytes_eq x) shared) }
