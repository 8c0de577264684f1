-- Which move an activity may make, and what it changes.
use Rattle.std.specs.Prelude.{◌≡◌, ℕ, ◌+◌, ◌*◌, ◌<◌, ◌≤◌, ◌⊎◌, true, false, List, [], ◌∷◌, length, Ok, Some}
use Rattle.std.specs.List.{list_any}
use Rattle.std.specs.Str.{bytes_eq}
use Rattle.clock_syntax.specs.Trees.{ClockTree}
use Rattle.clock_semantics.specs.Moves.{Move, advances, begins, drops, ends, opens, ops_of, resumes, starts, stops}
use Rattle.clock_semantics.specs.calls.ClockTests.{visited}
use Rattle.clock_semantics.specs.Unfolding.{ClockComing, ClockUnfolding, Current, come, governed_by, innermost, naming, start_at, with_activity, with_clock_made, with_move}

-- the name x stands for clock p, and the activity is registered on it
pub record IsClockOf (now : Current) (x : List ℕ) (p : ℕ) : Type 0 where
  pub named : now.names x ≡ Some p
  pub registered : now.standing.members p ≡ true

-- these are the clocks of the names of an async behind these earlier names: no name stands twice, and none of them is pending
abbrev pub AreClocksOf : Current → List (List ℕ) → List (List ℕ) → List ℕ → Type 0
AreClocksOf now earlier [] [] = Unit {0}
AreClocksOf now earlier (x ∷ xs) (p ∷ ps) =
    IsClockOf now x p × list_any (bytes_eq x) earlier ≡ false × now.standing.pending p ≡ false × AreClocksOf now (x ∷ earlier) xs ps
AreClocksOf now earlier xs ps = ⊥

-- there is room for one more clock or finish
pub record HasClockRoom (u : ClockUnfolding) : Type 0 where
  pub few : length u.makers < 1024
  pub cells : length u.parents * (length u.makers + 1 + 1) ≤ 1048576

-- there is room for one more activity
pub record HasActivityRoom (u : ClockUnfolding) : Type 0 where
  pub few : length u.parents < 4096
  pub cells : (length u.parents + 1) * (length u.makers + 1) ≤ 1048576

-- Activity t may make this move, before it stops, where the unfolding is u. With what the move changes beside the moves, how the activity stands, and the
-- number of ops, the unfolding is v.
abbrev pub MayMake : ℕ → ClockUnfolding → Move → ClockUnfolding → Type 0
MayMake t u (opens p) v = HasClockRoom u × p ≡ length u.makers × (x : List ℕ) × v ≡ naming x p (with_clock_made t u)
MayMake t u (starts c ps f) v =
    HasActivityRoom u × c ≡ length u.parents × f ≡ innermost u.now.governing
    × (xs : List (List ℕ)) × AreClocksOf u.now [] xs ps × (n : ℕ) × (body : ClockTree) × v ≡ with_activity t (start_at n body ps u.now) u
MayMake t u (advances p) v = (x : List ℕ) × IsClockOf u.now x p × v ≡ u
MayMake t u (resumes p) v = (x : List ℕ) × IsClockOf u.now x p × u.now.standing.pending p ≡ false × v ≡ u
MayMake t u (drops p) v = (x : List ℕ) × IsClockOf u.now x p × v ≡ u
MayMake t u (begins f) v = HasClockRoom u × f ≡ length u.makers × v ≡ governed_by (f ∷ u.now.governing) (with_clock_made t u)
MayMake t u (ends f) v = (fs : List ℕ) × u.now.governing ≡ f ∷ fs × v ≡ governed_by fs u
MayMake t u (stops ps) v = ⊥

-- activity t makes a move, which turns u into w
pub record MakesMove (t : ℕ) (u w : ClockUnfolding) : Type 0 where
  pub move : Move
  pub base : ClockUnfolding
  pub may : MayMake t u move base
  pub few : u.ops + length (ops_of u.now.standing move) ≤ 1048576
  pub becomes : w ≡ with_move t move base

-- a coming that answers an unfolding makes a move that the activity may make, or none: then only the visit is counted
abbrev pub ComesAreMoves : Type 0
ComesAreMoves =
    (t : ℕ) (m : ClockComing) (u w : ClockUnfolding) → come t m u ≡ Ok w → (w ≡ visited m.part u) ⊎ MakesMove t (visited m.part u) w
