-- Which moves an activity of an unfolding can make.
use Rattle.std.specs.Prelude.{◌≡◌, ℕ, Bool, true, false, ◌==◌, List, [], ◌∷◌, ◌++◌, Option, Some, None, option_to_list}
use Rattle.std.specs.List.{list_any}
use Rattle.clock_semantics.specs.Moves.{Move, ActivityStanding, after_move, opens, starts, advances, resumes, drops, begins, ends, stops}

-- which numbers are those of clocks, the others being those of finishes; and how each activity stands when it begins
pub record ClockKinds : Type 0 where
  pub is : ℕ → Bool
  pub first : ℕ → ActivityStanding

-- these are clocks, and none is pending
abbrev pub AreIdleClocks : (ℕ → Bool) → (ℕ → Bool) → List ℕ → Type 0
AreIdleClocks is pending [] = Unit {0}
AreIdleClocks is pending (p ∷ ps) = (is p ≡ true × pending p ≡ false) × AreIdleClocks is pending ps

-- the number that governs an async is that of a finish
abbrev pub IsFinishIfAny : (ℕ → Bool) → Option ℕ → Type 0
IsFinishIfAny is None = Unit {0}
IsFinishIfAny is (Some f) = is f ≡ false

-- activity t, which stands so, can make this move: clocks are clocks and finishes are finishes; who resumes or registers another is not pending; whom it
-- starts stands as it is registered; who ends a finish made it; and who stops leaves all of which it is a member
abbrev pub IsLawfulMove : ClockKinds → (ℕ → ℕ) → ℕ → ActivityStanding → Move → Type 0
IsLawfulMove clock maker t s (opens p) = clock.is p ≡ true
IsLawfulMove clock maker t s (starts c ps f) =
    AreIdleClocks clock.is s.pending ps × IsFinishIfAny clock.is f
    × ((q : ℕ) → (clock.first c).members q ≡ list_any (λ p. p == q) (ps ++ option_to_list f))
IsLawfulMove clock maker t s (advances p) = clock.is p ≡ true
IsLawfulMove clock maker t s (resumes p) = clock.is p ≡ true × s.pending p ≡ false
IsLawfulMove clock maker t s (drops p) = clock.is p ≡ true
IsLawfulMove clock maker t s (begins f) = clock.is f ≡ false
IsLawfulMove clock maker t s (ends f) = clock.is f ≡ false × maker f ≡ t
IsLawfulMove clock maker t s (stops ps) = (q : ℕ) → s.members q ≡ true → list_any (λ p. p == q) ps ≡ true

-- an end is the last move
abbrev pub IsLastIfEnd : Move → List Move → Type 0
IsLastIfEnd (stops ps) ms = ms ≡ []
IsLastIfEnd m ms = Unit {0}

-- activity t, which stands so, can make these moves one after the other, and is a member of nothing then
abbrev pub AreLawfulMoves : ClockKinds → (ℕ → ℕ) → ℕ → ActivityStanding → List Move → Type 0
AreLawfulMoves clock maker t s [] = (q : ℕ) → s.members q ≡ false
AreLawfulMoves clock maker t s (m ∷ ms) = IsLawfulMove clock maker t s m × IsLastIfEnd m ms × AreLawfulMoves clock maker t (after_move m s) ms
