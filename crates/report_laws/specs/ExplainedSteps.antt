-- The steps of a text, and its explanation.
use Rattle.std.specs.Prelude.{◌≡◌, ◌++◌, ℕ}
use Rattle.program_io.specs.Texts.{Text}
use Rattle.explain.specs.Explained.{IsExplanationOf}
use Rattle.explain.specs.Requests.{Form}
use Rattle.explain.specs.Stepped.{AreStepsOf}

-- what is written where the steps of a text are shown is these, and behind them what is written where the text is explained; and it has its status
abbrev pub StepsEndAsExplained : Type 0
StepsEndAsExplained =
    (form : Form) (text : Text) (a b : ℕ) (p q : Text) (s : AreStepsOf form text a p) → IsExplanationOf form text b q → (a ≡ b) × (p ≡ s.shown ++ q)
