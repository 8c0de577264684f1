-- Activities, and what is said of each.
use Rattle.std.specs.Prelude.{◌≡◌, ℕ, Bool, List, ◌++◌, map, not}
use Rattle.std.specs.List.{list_any}
use Rattle.std.specs.Str.{bytes_eq}
use Rattle.std.proofs.Common.{Global, Vec}
use Rattle.armus_base.specs.declared.ids.TaskId.{TaskId}
use Rattle.explain_tasks.specs.Groups.{each_once}
use Rattle.explain_clock.specs.declared.together.ActivityTold.{ActivityTold}

-- what is said, and of whom
pub record ActivitySaid : Type 0 where
  pub said : List ℕ
  pub activity : TaskId

-- the bytes of these words
abbrev pub said_bytes : Vec ℕ Global → List ℕ
said_bytes v = v.items

-- these words say it
abbrev pub says_it : List ℕ → Vec ℕ Global → Bool
says_it said v = bytes_eq said v.items

-- what is told, and of whom
abbrev pub words_told : ActivityTold → List ℕ
words_told p = p.said.items

-- of whom it is said
abbrev pub activity_of : ActivityTold → TaskId
activity_of p = p.activity

-- what is said of this activity
abbrev pub told_said : ActivityTold → ActivitySaid
told_said p = record { said = p.said.items; activity = p.activity }

-- what this function says of an activity
abbrev pub activity_said_as : (ℕ → List ℕ) → TaskId → ActivitySaid
activity_said_as says t = record { said = says t.0; activity = t }

-- this was told of each of these activities
abbrev pub AreToldAs : (ℕ → List ℕ) → List TaskId → List ActivityTold → Type 0
AreToldAs says ts told = map told_said told ≡ map (activity_said_as says) ts

-- this was told
abbrev pub is_said_of : List ℕ → ActivityTold → Bool
is_said_of said p = bytes_eq said p.said.items

-- nothing of this was told
abbrev pub is_untold : List (Vec ℕ Global) → ActivityTold → Bool
is_untold sayings p = not (list_any (says_it p.said.items) sayings)

-- where the old ones are what was said, each thing once, the new ones are so when this more is said
abbrev pub AddsSayings : List (List ℕ) → List (Vec ℕ Global) → List (Vec ℕ Global) → Type 0
AddsSayings more old new =
    (order : List (List ℕ)) → map said_bytes old ≡ each_once bytes_eq order → map said_bytes new ≡ each_once bytes_eq (order ++ more)
