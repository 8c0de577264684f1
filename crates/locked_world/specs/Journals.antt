-- Journals: the tasks of a run, in the order of their steps.
use Rattle.std.specs.Prelude.{◌≡◌, ℕ, List, [], ◌∷◌, ◌++◌}
use Rattle.armus_base.specs.declared.ids.TaskId.{TaskId}
use Rattle.armus_base.specs.Plans.{Plan}
use Rattle.armus_base.specs.Runs.{IsPlainRun}
use Rattle.armus_base.specs.States.{Step}

-- the tasks of a run, in the order of their steps
abbrev pub journal_of : List Step → List TaskId
journal_of [] = []
journal_of (e ∷ h) = journal_of h ++ record { 0 = e.task } ∷ []

-- h is a plain run of the plan, and the journal has its tasks in the order of their steps
pub record IsJournalOf (plan : Plan) (journal : List TaskId) (h : List Step) : Type 0 where
  pub run : IsPlainRun plan h
  pub tasks : journal ≡ journal_of h
