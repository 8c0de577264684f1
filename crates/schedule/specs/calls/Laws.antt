-- The laws of replays.
use Rattle.std.specs.Prelude.{◌≡◌, ℕ, ◌⊎◌, List, Contains}
use Rattle.armus_base.specs.CheckedPlans.{IsCheckedPlan}
use Rattle.armus_base.specs.Plans.{Plan}
use Rattle.armus_base.specs.Runs.{IsPlainRun}
use Rattle.schedule.specs.declared.lines.Line.{Line}
use Rattle.schedule.specs.Passes.{PassLoads}
use Rattle.schedule.specs.Lines.{IsSchedule}
use Rattle.schedule.specs.Replays.{Progress, IsFault, IsFirstFault, LinesLead, Takes}
use Rattle.schedule.specs.Split.{IsSplit}
use Rattle.schedule.specs.Laws.{NamesTheDead}

-- so does each closed pass of every schedule
abbrev pub PassesNameTheDead : Type 0
PassesNameTheDead =
    (plan : Plan) (lines : List Line) (a : Progress) (loads : PassLoads) → IsCheckedPlan plan → LinesLead plan lines a → Contains a.passes loads →
    NamesTheDead plan loads

-- an input has one text and one schedule
abbrev pub OneSplit : Type 0
OneSplit = (input text schedule other rest : List ℕ) → IsSplit input text schedule → IsSplit input other rest → (text ≡ other) × (schedule ≡ rest)

-- bytes are one list of lines
abbrev pub OneReading : Type 0
OneReading = (bytes : List ℕ) (lines others : List Line) → IsSchedule bytes lines → IsSchedule bytes others → lines ≡ others

-- lines lead to one progress
abbrev pub OneProgress : Type 0
OneProgress = (plan : Plan) (lines : List Line) (a b : Progress) → LinesLead plan lines a → LinesLead plan lines b → a ≡ b

-- no lines both lead to a progress and have a first fault
abbrev pub NeverBoth : Type 0
NeverBoth =
    (plan : Plan) (lines : List Line) (a : Progress) (number kind : ℕ) → IsCheckedPlan plan → LinesLead plan lines a → IsFirstFault plan lines number kind → ⊥

-- lines have one first fault
abbrev pub OneFirstFault : Type 0
OneFirstFault =
    (plan : Plan) (lines : List Line) (number kind other another : ℕ) → IsCheckedPlan plan → IsFirstFault plan lines number kind →
    IsFirstFault plan lines other another → (number ≡ other) × (kind ≡ another)

-- after a plain run each line is taken, or at fault
abbrev pub LineIsMet : Type 0
LineIsMet =
    (plan : Plan) (a : Progress) (next : Line) → IsCheckedPlan plan → IsPlainRun plan a.run →
    ((b : Progress) × Takes plan a next b) ⊎ ((kind : ℕ) × IsFault plan a next kind)

-- the lines lead to a progress, or have a first fault
abbrev pub IsMet : Plan → List Line → Type 0
IsMet plan lines = ((a : Progress) × LinesLead plan lines a) ⊎ ((number : ℕ) × (kind : ℕ) × IsFirstFault plan lines number kind)

-- so is each list of lines
abbrev pub LinesAreMet : Type 0
LinesAreMet = (plan : Plan) (lines : List Line) → IsCheckedPlan plan → IsMet plan lines

-- bytes have lines
abbrev pub BytesHaveLines : Type 0
BytesHaveLines = (bytes : List ℕ) → (lines : List Line) × IsSchedule bytes lines

-- an input has a text and a schedule
abbrev pub InputIsSplit : Type 0
InputIsSplit = (input : List ℕ) → (text : List ℕ) × (schedule : List ℕ) × IsSplit input text schedule
