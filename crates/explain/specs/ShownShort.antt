-- How many lines of an explanation are shown.
use Rattle.std.specs.Prelude.{ℕ, suc, ◌<◌, ◌≤◌, ◌^◌, length}
use Rattle.explain.specs.declared.extent.Extent.TheVariants.{Usual, Short}
use Rattle.program_io.specs.Texts.{Text}
use Rattle.explain.specs.Shortened.{displayed, line_total}

-- of an explanation at most 60 lines are shown, where neither all of it nor less is asked for
abbrev pub IsShownShort : Type 0
IsShownShort = (heads : ℕ) (whole : Text) → length whole < 2 ^ 64 → line_total (displayed heads Usual whole) ≤ 60

-- of an explanation with so many lines in front of its paragraphs at most one more is shown, where little of it is asked for
abbrev pub IsShownBrief : Type 0
IsShownBrief = (heads : ℕ) (whole : Text) → line_total (displayed heads Short whole) ≤ suc heads
