-- The laws of journals.
use Rattle.std.specs.Prelude.{◌≡◌, List, ◌∷◌, ◌++◌}
use Rattle.armus_base.specs.declared.ids.TaskId.{TaskId}
use Rattle.armus_base.specs.Plans.{Plan, Action}
use Rattle.armus_base.specs.Runs.{state_after, IsOwnNextStep}
use Rattle.armus_base.specs.States.{Step}
use Rattle.pl_core.specs.calls.Worlds.{state_of}
use Rattle.locked_world.specs.calls.Journals.{IsReplayOfJournal, JournalLeadsTo, LoggedValue}
use Rattle.locked_world.specs.Journals.{IsJournalOf}

-- the tasks of a journal lead to its run
abbrev pub JournalLeads : Type 0
JournalLeads = (plan : Plan) (journal : List TaskId) (h : List Step) → IsJournalOf plan journal h → JournalLeadsTo plan journal h

-- tasks that lead to a run are its journal
abbrev pub LeadsIsJournal : Type 0
LeadsIsJournal = (plan : Plan) (journal : List TaskId) (h : List Step) → JournalLeadsTo plan journal h → IsJournalOf plan journal h

-- the tasks ahead of each task of a journal lead to a run, after which that task goes on
abbrev pub EachGoesOn : Type 0
EachGoesOn =
    (plan : Plan) (before : List TaskId) (t : TaskId) (rest : List TaskId) (h : List Step) → JournalLeadsTo plan (before ++ t ∷ rest) h →
    (g : List Step) × JournalLeadsTo plan before g × (x : Action) × IsOwnNextStep plan g t.0 x

-- a journal is that of one run
abbrev pub JournalFixesRun : Type 0
JournalFixesRun = (plan : Plan) (journal : List TaskId) (h g : List Step) → JournalLeadsTo plan journal h → JournalLeadsTo plan journal g → h ≡ g

-- the state of a logged world is the one after the run of its journal
abbrev pub ReplayedState : Type 0
ReplayedState =
    (plan : Plan) (l : LoggedValue) (h : List Step) → IsReplayOfJournal plan l → IsJournalOf plan l.journal h → state_of l.world ≡ state_after h
