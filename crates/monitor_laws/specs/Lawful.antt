-- What holds of every state that lines lead to.
use Rattle.std.specs.Prelude.{◌≡◌, ℕ, ◌<◌, true, List, [], ◌∷◌, Contains}
use Rattle.monitor_laws.specs.States.{OneOf, Participant, TraceState, is_there_as, stays_listed}

-- numbers are below the count and different, names of those who are there are different, and nobody is listed who does not stay
pub record IsLawfulState (s : TraceState) : Type 0 where
  pub numbers : (u : Participant) → Contains s.list u → u.number < s.named
  pub tasks : (u : Participant) (names : List (List ℕ)) (tasks : List ℕ) → Contains s.list u → u.condition ≡ OneOf names tasks → (k : ℕ) → Contains tasks k → k < s.named
  pub one_number : (u v : Participant) → Contains s.list u → Contains s.list v → u.number ≡ v.number → u ≡ v
  pub one_name : (t : List ℕ) (u v : Participant) → Contains s.list u → Contains s.list v → is_there_as t u ≡ true → is_there_as t v ≡ true → u ≡ v
  pub stays : (u : Participant) → Contains s.list u → stays_listed u ≡ true

-- each has a greater number than those before it
abbrev pub AreAscending : List Participant → Type 0
AreAscending [] = Unit {0}
AreAscending (u ∷ us) = ((v : Participant) → Contains us v → u.number < v.number) × AreAscending us
