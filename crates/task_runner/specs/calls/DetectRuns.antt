-- Runs on a board that detects deadlock: what one answers, and what it writes while it goes on.
use Rattle.std.specs.Prelude.{◌≡◌, ℕ, ◌⊎◌, true, false, List, Option, None, IsSome, Result, Ok, Err, length}
use Rattle.std.specs.Io.KnownBytes.{Appends}
use Rattle.armus_base.specs.declared.ending.Final.{Final}
use Rattle.armus_base.specs.declared.status.Dead.{Dead}
use Rattle.armus_base.specs.Causes.{counted}
use Rattle.armus_base.specs.DeadLists.{IsDeadList}
use Rattle.armus_base.specs.Finals.{is_awaited, statuses_on}
use Rattle.armus_base.specs.ReadAll.{TookFront}
use Rattle.armus_base.specs.Plans.{Plan, action_at}
use Rattle.armus_base.specs.Runs.{Place}
use Rattle.armus_base.specs.Places.{done_by, forked_at, published_after, state_at}
use Rattle.armus_base.specs.States.{State}
use Rattle.armus_base.specs.calls.Boards.{IsLawful}
use Rattle.board.specs.calls.Words.{IsShown}
use Rattle.collector.specs.calls.Passes.{HasDeadOf}
use Rattle.pl_core.specs.calls.Worlds.{places_at}
use Rattle.report.specs.Live.{live_text}
use Rattle.report.specs.NamedDead.{AreSomeDead, AreTheDead}
use Rattle.world_runs.specs.calls.PlainRuns.{IsPlainEnd}
use Rattle.task_runner.specs.declared.ran.Ran.{Ran}
use Rattle.task_runner.specs.declared.ran.RunEnd.{RunEnd}
use Rattle.task_runner.specs.declared.ran.RunEnd.TheVariants.{Write, NoMemory}

-- at these places each forked task is done or published
abbrev pub AreSettledPlaces : Plan → (ℕ → Place) → Type 0
AreSettledPlaces plan a =
    (t : ℕ) → forked_at plan (done_by a) t ≡ true → (action_at plan t (a t).done ≡ None) ⊎ IsSome (published_after plan t (a t).done)

-- the state of the board when all tasks had ended their turns on it
abbrev pub last_state : Plan → Ran → State
last_state plan ran = state_at plan (places_at plan ran.places)

-- The value is that of the one final state. The places, one for each task, are those of a lawful state of the board in which each forked task is done or
-- published, and the words are those of that state. The pass after the rounds found the statuses of that state and named their dead, in order: just the tasks
-- that are dead in it.
pub record IsDetectRun (plan : Plan) (ran : Ran) : Type 0 where
  pub end : IsPlainEnd plan ran.end
  pub one_each : length ran.places ≡ length plan.parents
  pub lawful : IsLawful false plan (places_at plan ran.places) None
  pub settled : AreSettledPlaces plan (places_at plan ran.places)
  pub of_plan : ran.words.plan ≡ plan
  pub words : IsShown plan (last_state plan ran) None ran.words.words
  pub named : IsDeadList (statuses_on plan (last_state plan ran) (is_awaited plan (last_state plan ran))) ran.dead
  pub dead : HasDeadOf (last_state plan ran) ran.dead

-- what a sink tells: the bytes that it has taken, and its count of faults
pub record SinkValue : Type 0 where
  pub taken : Option (List ℕ)
  pub faults : ℕ

-- what this sink tells
abbrev pub told : {K : Type 0} → (K → Option (List ℕ)) → (K → ℕ) → K → SinkValue
told taken faults k = record { taken = taken k; faults = faults k }

-- these tasks are dead in the state in which every plain run of the plan ends, each with its event, none twice
abbrev pub AreDeadAtTheEnd : Plan → List Dead → Type 0
AreDeadAtTheEnd plan named = (end : Final) → IsPlainEnd plan end → AreSomeDead end.blocked named

-- a line for each of these tasks was written, in order
pub record HasWritten (named : List Dead) (before now : SinkValue) : Type 0 where
  pub lines : Appends before.taken now.taken (live_text named)
  pub sound : now.faults ≡ before.faults

-- the sink counted a fault, and took some first bytes of these lines
pub record HasFailed (named : List Dead) (before now : SinkValue) : Type 0 where
  pub front : TookFront before.taken now.taken (live_text named)
  pub failed : now.faults ≡ counted before.faults

-- What a run writes while it goes on: a line for each task that is dead in its final state, each once. After a fault of the sink some first bytes of such
-- lines were taken, and where memory was wanting the lines of some of these tasks.
abbrev pub TellsRun : Plan → SinkValue → SinkValue → Result Ran RunEnd → Type 0
TellsRun plan before now (Ok ran) = (named : List Dead) × AreTheDead ran.end.blocked named × HasWritten named before now
TellsRun plan before now (Err Write) = (named : List Dead) × AreDeadAtTheEnd plan named × HasFailed named before now
TellsRun plan before now (Err NoMemory) = (named : List Dead) × AreDeadAtTheEnd plan named × HasWritten named before now

-- no fault of the sink ended it
abbrev pub IsNoWrite : {A : Type 0} → Result A RunEnd → Type 0
IsNoWrite (Err Write) = ⊥
IsNoWrite result = Unit {0}
