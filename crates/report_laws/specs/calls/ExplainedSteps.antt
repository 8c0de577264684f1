-- The steps of a clock text, and its explanation.
use Rattle.std.specs.Prelude.{◌≡◌, ◌++◌, ℕ}
use Rattle.program_io.specs.Texts.{Text}
use Rattle.explain.specs.ClockExplained.{IsClockExplanationOf}
use Rattle.explain.specs.ClockStepped.{AreClockStepsOf}
use Rattle.explain.specs.Requests.{Form}

-- what is written where the steps of a clock text are shown is these, and behind them what is written where the text is explained; and it has its status
abbrev pub ClockStepsEndAsExplained : Type 0
ClockStepsEndAsExplained =
    (form : Form) (text : Text) (a b : ℕ) (p q : Text) (s : AreClockStepsOf form text a p) → IsClockExplanationOf form text b q →
    (a ≡ b) × (p ≡ s.shown ++ q)
