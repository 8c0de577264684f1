-- The lines of what is known of activities.
use Rattle.std.specs.Prelude.{◌≡◌, ℕ, List}
use Rattle.armus_base.specs.declared.ids.TaskId.{TaskId}
use Rattle.armus_base.specs.Plans.{Plan}
use Rattle.explain_clock.specs.ClockCircles.{IsClockCircle}
use Rattle.explain_clock.specs.ClockExplanations.{clock_lines}
use Rattle.explain_clock.specs.ClockFacts.{ClockFacts}

-- these are the lines of these facts, with the circle of their statuses, and of this plan
abbrev pub IsToldByFacts : ClockFacts → Plan → List ℕ → Type 0
IsToldByFacts f plan lines = (circle : List TaskId) × IsClockCircle f.blocked circle × (lines ≡ clock_lines f plan circle)
