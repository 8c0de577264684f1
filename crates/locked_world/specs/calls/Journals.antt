-- Journals: the tasks of a run, in the order of their steps.
use Rattle.std.specs.Prelude.{◌≡◌, List, [], ◌∷◌, ◌++◌}
use Rattle.armus_base.specs.declared.ids.TaskId.{TaskId}
use Rattle.armus_base.specs.CheckedPlans.{IsCheckedPlan}
use Rattle.armus_base.specs.Plans.{Plan, Action}
use Rattle.armus_base.specs.Runs.{places, IsOwnNextStep}
use Rattle.armus_base.specs.States.{Step}
use Rattle.pl_core.specs.calls.Moves.{IsWorldStep}
use Rattle.pl_core.specs.calls.Worlds.{WorldValue, places_of}
use Rattle.locked_world.specs.Journals.{IsJournalOf}

-- these tasks, in order, make the run h: each of them goes on by its code when its turn comes
pub data JournalLeadsTo (plan : Plan) : List TaskId → List Step → Type 0 where
  no_step : JournalLeadsTo plan [] []
  one_more :
      (journal : List TaskId) (h : List Step) (t : TaskId) (x : Action) → JournalLeadsTo plan journal h → IsOwnNextStep plan h t.0 x →
      JournalLeadsTo plan (journal ++ t ∷ []) (record { task = t.0; action = x } ∷ h)

-- what contracts see of a logged world
pub record LoggedValue : Type 0 where
  pub world : WorldValue
  pub journal : List TaskId

-- the world is of this checked plan, and the replay of its journal: it stands where the run of the journal leads
pub record IsReplayOfJournal (plan : Plan) (l : LoggedValue) : Type 0 where
  pub checked : IsCheckedPlan plan
  pub steps : List Step
  pub journal : IsJournalOf plan l.journal steps
  pub plan_is : l.world.plan ≡ plan
  pub there : places_of l.world ≡ places steps

-- one step of task t, and t behind the journal
pub record LogsStep (old new : LoggedValue) (t : TaskId) : Type 0 where
  pub step : IsWorldStep old.world new.world t.0
  pub journal : new.journal ≡ old.journal ++ t ∷ []
