-- The unfolding of a clock program in other words than its computation: each activity in order of number goes from point to point of its text; at each it
-- passes the rows of the table, in the unfolding after those before it; and the first point at which a row fails.
use Rattle.std.specs.Prelude.{◌≡◌, ℕ, ◌+◌, ◌<◌, ◌≤◌, ◌↔◌, length, slice_get, Some, None, Ok, Err}
use Rattle.clock_syntax.specs.Trees.{ClockTree}
use Rattle.pl_plan.specs.declared.fault.CheckFault.{CheckFault}
use Rattle.clock_semantics.specs.Moves.{stops}
use Rattle.clock_semantics.specs.calls.ClockTests.{IsFirstClockFault, PassesClockTable, clock_done, clock_table, left_at_end, visited}
use Rattle.clock_semantics.specs.Unfolding.{ClockComing, ClockStart, ClockUnfolding, clock_opening, clock_unfolded, with_known, with_move}
use Rattle.clock_semantics.specs.calls.ProgramPoints.{ProgramPoint, behind, finishes_around, first_point, part_at, starter_of}

-- ---- unfoldings

-- who stands at this point comes to this part there, and the finishes that govern are those around the point
pub record ComesTo (point : ProgramPoint) (m : ClockComing) (u : ClockUnfolding) : Type 0 where
  pub part : part_at point ≡ Some m
  pub governs : u.now.governing ≡ finishes_around point

-- the unfolding after what activity t does there
abbrev pub after_part : ℕ → ClockComing → ClockUnfolding → ClockUnfolding
after_part t m u = clock_done t m.statement m.part (visited m.part u)

-- activity t goes from this point to its end, and the unfolding from u to w
pub data GoesToEnd (t : ℕ) : ProgramPoint → ClockUnfolding → ClockUnfolding → Type 0 where
  comes :
      {point : ProgramPoint} {u w : ClockUnfolding} (m : ClockComing) → ComesTo point m u → PassesClockTable (clock_table m.part) u →
      GoesToEnd t (behind (length u.makers) point) (after_part t m u) w → GoesToEnd t point u w
  stops_there :
      {point : ProgramPoint} {u : ClockUnfolding} → part_at point ≡ None → u.ops + length (left_at_end u) ≤ 1048576 →
      GoesToEnd t point u (with_move t (stops (left_at_end u)) u)

-- the activities from number t on, one after the other, until there is none
pub data UnfoldsFrom : ℕ → ClockUnfolding → ClockUnfolding → Type 0 where
  no_more : {t : ℕ} {u : ClockUnfolding} → slice_get u.starts t ≡ None → UnfoldsFrom t u u
  one_more :
      {t : ℕ} {u v w : ClockUnfolding} (start : ClockStart) → slice_get u.starts t ≡ Some start →
      GoesToEnd t (first_point start) (with_known start.known u) v → UnfoldsFrom (t + 1) v w → UnfoldsFrom t u w

-- a program unfolds so
abbrev pub ClockUnfolds : ClockTree → ClockUnfolding → Type 0
ClockUnfolds program u = UnfoldsFrom 0 (clock_opening program) u

-- ---- first faults

-- activity t, from this point, has this first fault: where it comes to a part, that of the first row that is at fault; or at its end the want of an op
pub data FailsOnTheWay (t : ℕ) : ProgramPoint → ClockUnfolding → CheckFault → Type 0 where
  at_part :
      {point : ProgramPoint} {u : ClockUnfolding} {fault : CheckFault} (m : ClockComing) → ComesTo point m u →
      IsFirstClockFault (clock_table m.part) u fault.kind → fault.statement ≡ m.statement → FailsOnTheWay t point u fault
  at_end :
      {point : ProgramPoint} {u : ClockUnfolding} {fault : CheckFault} → part_at point ≡ None → 1048576 < u.ops + length (left_at_end u) →
      fault.kind ≡ 8 → fault.statement ≡ starter_of point → FailsOnTheWay t point u fault
  later :
      {point : ProgramPoint} {u : ClockUnfolding} {fault : CheckFault} (m : ClockComing) → ComesTo point m u → PassesClockTable (clock_table m.part) u →
      FailsOnTheWay t (behind (length u.makers) point) (after_part t m u) fault → FailsOnTheWay t point u fault

-- the activities from number t on have this first fault
pub data FailsFrom : ℕ → ClockUnfolding → CheckFault → Type 0 where
  in_this_one :
      {t : ℕ} {u : ClockUnfolding} {fault : CheckFault} (start : ClockStart) → slice_get u.starts t ≡ Some start →
      FailsOnTheWay t (first_point start) (with_known start.known u) fault → FailsFrom t u fault
  in_a_later_one :
      {t : ℕ} {u v : ClockUnfolding} {fault : CheckFault} (start : ClockStart) → slice_get u.starts t ≡ Some start →
      GoesToEnd t (first_point start) (with_known start.known u) v → FailsFrom (t + 1) v fault → FailsFrom t u fault

-- a program has this first fault
abbrev pub HasFirstClockFault : ClockTree → CheckFault → Type 0
HasFirstClockFault program fault = FailsFrom 0 (clock_opening program) fault

-- ---- the laws

-- the unfolding that is computed is the one by the relation
abbrev pub UnfoldingIsUnfolded : Type 0
UnfoldingIsUnfolded = (program : ClockTree) (u : ClockUnfolding) → (clock_unfolded program ≡ Ok u) ↔ ClockUnfolds program u

-- and the fault that is computed is the first one by it
abbrev pub ClockFaultIsFirst : Type 0
ClockFaultIsFirst = (program : ClockTree) (fault : CheckFault) → (clock_unfolded program ≡ Err fault) ↔ HasFirstClockFault program fault
