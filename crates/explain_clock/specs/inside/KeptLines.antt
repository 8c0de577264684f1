-- Lines that are kept.
use Rattle.std.specs.Prelude.{◌≡◌, All, List}
use Rattle.explain_clock.specs.ClockFacts.{ClockFacts}
use Rattle.explain_clock.specs.ClockKeepers.{keeper_lines}
use Rattle.explain_clock.specs.declared.kept_lines.Kept.{Kept}

-- what is kept for each event is the lines of those who keep it from being reached
abbrev pub AreKept : ClockFacts → List Kept → Type 0
AreKept f kept = All (λ (k : Kept). k.lines.items ≡ keeper_lines f k.event) kept
