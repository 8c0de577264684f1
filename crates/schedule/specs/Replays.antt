-- Replays: the lines of a schedule act on a plain run and on at most one open pass.
use Rattle.std.specs.Prelude.{◌≡◌, ℕ, ◌+◌, ◌≤◌, ◌<◌, ◌==◌, List, [], ◌∷◌, ◌++◌, Option, Some, None, length, if◌then◌else◌, IsSome}
use Rattle.armus_base.specs.Plans.{Plan, Action}
use Rattle.armus_base.specs.States.{Step}
use Rattle.armus_base.specs.Runs.{IsOwnNextStep}
use Rattle.schedule.specs.declared.lines.Line.{Line}
use Rattle.schedule.specs.declared.lines.Line.TheVariants as line
use Rattle.schedule.specs.Passes.{PassLoads, loads_of}

-- how far a schedule has come: the plain run, the last step first; the open pass, if one is; and the closed passes, in order
pub record Progress : Type 0 where
  pub run : List Step
  pub open_pass : Option PassLoads
  pub passes : List PassLoads

-- no line yet
abbrev pub at_start : Progress
at_start = record { run = []; open_pass = None; passes = [] }

-- one more load of the open pass; its last load closes it
abbrev pub loaded : Plan → Progress → PassLoads → Progress
loaded plan a loads =
    if length loads == loads_of plan loads then record a { open_pass = None; passes = a.passes ++ loads ∷ [] } else record a { open_pass = Some loads }

-- a line that is at no fault leads from one progress to the next
abbrev pub Takes : Plan → Progress → Line → Progress → Type 0
Takes plan a (line.Step t) b = (x : Action) × IsOwnNextStep plan a.run t x × b ≡ record a { run = record { task = t; action = x } ∷ a.run }
Takes plan a line.Pass b = a.open_pass ≡ None × b ≡ record a { open_pass = Some [] }
Takes plan a line.Load b = (loads : PassLoads) × a.open_pass ≡ Some loads × b ≡ loaded plan a (loads ++ a.run ∷ [])
Takes plan a line.Unreadable b = ⊥

-- these lines, each at no fault, lead to this progress
pub data LinesLead (plan : Plan) : List Line → Progress → Type 0 where
  no_line : LinesLead plan [] at_start
  one_more : (lines : List Line) (a : Progress) (next : Line) (b : Progress) → LinesLead plan lines a → Takes plan a next b → LinesLead plan (lines ++ next ∷ []) b

-- a line is at fault of this kind: 1 where it has no form, 2 where its task is not enabled, 3 where there is no such task, 4 where no pass is open, 5 where one is
-- open already
pub data IsFault (plan : Plan) (a : Progress) : Line → ℕ → Type 0 where
  unreadable : IsFault plan a line.Unreadable 1
  stuck_task : (t : ℕ) → t < length plan.parents → ((x : Action) → IsOwnNextStep plan a.run t x → ⊥) → IsFault plan a (line.Step t) 2
  strange_task : (t : ℕ) → length plan.parents ≤ t → IsFault plan a (line.Step t) 3
  load_without_pass : a.open_pass ≡ None → IsFault plan a line.Load 4
  second_pass : IsSome a.open_pass → IsFault plan a line.Pass 5

-- the first line at fault: its number, from 1, and its kind
pub record IsFirstFault (plan : Plan) (lines : List Line) (number kind : ℕ) : Type 0 where
  pub before : List Line
  pub here : Line
  pub rest : List Line
  pub parts : lines ≡ before ++ here ∷ rest
  pub progress : Progress
  pub leads : LinesLead plan before progress
  pub fault : IsFault plan progress here kind
  pub counted : number ≡ length before + 1
