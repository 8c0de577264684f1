-- The numbers that an unfolding gives to the activities, clocks and finishes of a program that are named by where they come from.
use Rattle.std.specs.Prelude.{◌≡◌, ℕ, ◌<◌, [], length, Ok}
use Rattle.clock_syntax.specs.Trees.{ClockTree}
use Rattle.clock_semantics.specs.Unfolding.{ClockUnfolding, activities, clock_unfolded}
use Rattle.clock_laws.specs.TextMachine.{Activity, Made}
use Rattle.clock_laws.specs.TextNumbers.{IsActivityIn, IsMadeIn, made_in, number_in}

-- ---- what is proved of them

-- each number of an activity has one name
abbrev pub EachNumberIsNamed : Type 0
EachNumberIsNamed =
    (p : ClockTree) (u : ClockUnfolding) (t : ℕ) → clock_unfolded p ≡ Ok u → t < activities u →
    (a : Activity) × IsActivityIn u a × (number_in u a ≡ t) × ((b : Activity) → IsActivityIn u b → number_in u b ≡ t → b ≡ a)

-- each number of a clock or finish has a name
abbrev pub EachMadeIsNamed : Type 0
EachMadeIsNamed = (p : ClockTree) (u : ClockUnfolding) (k : ℕ) → clock_unfolded p ≡ Ok u → k < length u.makers → (q : Made) × IsMadeIn u q × (made_in u q ≡ k)

-- two clocks or finishes have two numbers
abbrev pub MadeHaveOneName : Type 0
MadeHaveOneName =
    (p : ClockTree) (u : ClockUnfolding) (q r : Made) → clock_unfolded p ≡ Ok u → IsMadeIn u q → IsMadeIn u r → made_in u q ≡ made_in u r → q ≡ r
