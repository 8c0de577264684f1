-- Laws of the machine on the text: its runs are those of the machine on moves, and so its ends are those of the plan's tasks.
use Rattle.std.specs.Prelude.{◌≡◌, ℕ, ◌+◌, ◌<◌, true, [], Option, Some, None}
use Rattle.armus_base.specs.declared.ending.TaskEnd.{TaskEnd}
use Rattle.armus_base.specs.declared.ending.TaskEnd.TheVariants.{Done, Blocked, Unforked}
use Rattle.armus_base.specs.Finals.{end_of}
use Rattle.armus_base.specs.States.{State, event_at}
use Rattle.clock_syntax.specs.Trees.{ClockTree}
use Rattle.clock_semantics.specs.Unfolding.{ClockUnfolding, activities}
use Rattle.clock_laws.specs.TextMachine.{Activity, IsTextEnd, Made, ActivityStand, TextState, at_advance, at_end, elsewhere, ended, is_there, stand_of, unstarted}
use Rattle.clock_laws.specs.TextNumbers.{IsActivityIn, IsClockIn, IsFinishIn, made_in, number_in}

-- ---- ends

-- the end of the task of an activity that stands so and cannot go, by the numbers of the clocks and finishes
abbrev pub end_as : (Made → ℕ) → ActivityStand → Option TaskEnd
end_as number unstarted = Some Unforked
end_as number ended = Some Done
end_as number (at_advance p k) = Some (Blocked (event_at (number p) (k + 1)))
end_as number (at_end f) = Some (Blocked (event_at (number f) 1))
end_as number elsewhere = None

-- an activity that stands so waits at an advance of a clock of the unfolding, or at the end of one of its finishes, if it waits
abbrev pub WaitsAtOne : ClockUnfolding → ActivityStand → Type 0
WaitsAtOne u (at_advance p k) = IsClockIn u p
WaitsAtOne u (at_end f) = IsFinishIn u f
WaitsAtOne u unstarted = Unit {0}
WaitsAtOne u ended = Unit {0}
WaitsAtOne u elsewhere = Unit {0}

-- The machine comes to an end. At each of its ends each activity stands as its task has ended in this state, and who waits, waits at a clock or finish of the
-- unfolding; who is there is an activity of the unfolding; and each number of a task is that of an activity.
pub record EndsAreTold (p : ClockTree) (u : ClockUnfolding) (σ : State) : Type 0 where
  pub some : (s : TextState) × IsTextEnd p s
  pub each : (s : TextState) (a : Activity) → IsTextEnd p s → IsActivityIn u a → end_as (made_in u) (stand_of s a) ≡ Some (end_of σ (number_in u a))
  pub waits : (s : TextState) (a : Activity) → IsTextEnd p s → IsActivityIn u a → WaitsAtOne u (stand_of s a)
  pub inside : (s : TextState) (a : Activity) → IsTextEnd p s → is_there s a ≡ true → IsActivityIn u a
  pub named : (t : ℕ) → t < activities u → (a : Activity) × IsActivityIn u a × (number_in u a ≡ t)
