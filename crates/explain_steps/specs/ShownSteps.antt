-- The lines of the steps of a run.
use Rattle.std.specs.Prelude.{◌≡◌, ℕ, zero, suc, ◌-◌, ◌+◌, List, [], ◌∷◌, ◌++◌, codes, decimal, drop, length}
use Rattle.armus_base.specs.Plans.{Action, Plan, code_of}
use Rattle.armus_base.specs.Runs.{places, state_after}
use Rattle.armus_base.specs.States.{State, Step}
use Rattle.pl_core.specs.Tasks.{IsAtOp}
use Rattle.pl_syntax.specs.declared.tree.Program.{Program}
use Rattle.pl_syntax.specs.Grammar.{IsText}
use Rattle.explain_facts.specs.Accounts.{IsLayout, Layout}
use Rattle.explain_steps.specs.StepWords.{shown_step_line}

-- how many steps are shown at most
abbrev pub most_shown : ℕ
most_shown = 10000

-- the line of a step of this plan, with this number, which a task makes in a state by this action, at this op of its code
abbrev pub LineWords : Type 0
LineWords = Plan → ℕ → State → ℕ → Action → ℕ → List ℕ

-- the line of step e, which is made after the steps h: at the op of its task's code at which the task stands then
pub record IsLineOf (words : LineWords) (plan : Plan) (h : List Step) (e : Step) (line : List ℕ) : Type 0 where
  pub op : ℕ
  pub stands : IsAtOp (code_of plan e.task) (places h e.task).done op
  pub line_is : line ≡ words plan (length h + 1) (state_after h) e.task e.action op

-- the lines of these steps, the first one first; of the steps the last one stands first
abbrev pub AreLinesOf : LineWords → Plan → List Step → List ℕ → Type 0
AreLinesOf words plan [] lines = lines ≡ []
AreLinesOf words plan (e ∷ h) lines =
    (before : List ℕ) × (line : List ℕ) × AreLinesOf words plan h before × IsLineOf words plan h e line × (lines ≡ before ++ line)

-- the first n of these steps
abbrev pub first_steps : ℕ → List Step → List Step
first_steps n h = drop (length h - n) h

-- how many more steps there were: and 12 more
abbrev pub more_steps_line : ℕ → List ℕ
more_steps_line zero = []
more_steps_line (suc n) = codes "and " ++ decimal (suc n) ++ codes " more\n"

-- the lines that show these steps: one for each of the first steps, and one for the rest, if there is one
pub record ShowSteps (words : LineWords) (plan : Plan) (h : List Step) (lines : List ℕ) : Type 0 where
  pub shown : List ℕ
  pub each : AreLinesOf words plan (first_steps most_shown h) shown
  pub lines_are : lines ≡ shown ++ more_steps_line (length h - most_shown)

-- the lines that show the steps of this run of the text's plan
pub record AreShown (text : List ℕ) (p : Program) (plan : Plan) (h : List Step) (lines : List ℕ) : Type 0 where
  pub reads : IsText text p
  pub layout : Layout
  pub of_text : layout.text ≡ text
  pub is_layout : IsLayout p layout
  pub shows : ShowSteps (λ q. shown_step_line layout p) plan h lines
