-- What a run of PL announces.
use Rattle.std.specs.Prelude.{◌≡◌, ℕ, List, [], ◌∷◌, ◌++◌, Option, Some, None, Contains, ◌↔◌}
use Rattle.armus_base.specs.declared.event.Event.{Event}
use Rattle.armus_base.specs.Plans.{Plan, Action, Makes, Registers, Forks, Advances, Drops, Blocks, Passes, Refuses}
use Rattle.armus_base.specs.States.{State, Step, awaited}
use Rattle.armus_base.specs.Runs.{IsLegalRun, state_after}
use Rattle.armus_base.specs.CheckedPlans.{IsCheckedPlan}
use Rattle.armus_base.specs.Deadlocks.{IsDeadIn}
use Rattle.monitor_laws.specs.Lines.{Announcement, Joins, Arrives, Leaves, Waits, Goes, Stands, TraceLine, Announces}
use Rattle.monitor_laws.specs.States.{Condition, Running, Waiting, Participant, TraceState, after_lines}
use Rattle.monitor_laws.specs.Faults.{participant_in, phase_on}
use Rattle.monitor_laws.specs.Stuck.{IsStuck}
use Rattle.monitor_laws.specs.Traces.{IsLasting, IsLegalTrace}

-- a name for each number, which tells its number
abbrev pub Naming : Type 0
Naming = ℕ → List ℕ

-- a naming gives each number a name of its own
abbrev pub TellsNumber : Naming → Type 0
TellsNumber name = (number : List ℕ → ℕ) × ((k : ℕ) → number (name k) ≡ k)

-- a wait for the event, and a join with the phase
abbrev pub wait_on : Naming → Option Event → Announcement
wait_on phaser None = Stands
wait_on phaser (Some e) = Waits (phaser e.p.0) e.n

-- the line by which a member with this phase joins, where it has one
abbrev pub join_with : List ℕ → Option ℕ → Announcement
join_with p None = Stands
join_with p (Some n) = Joins p n

-- what a step writes: a fork nothing, a registration the child's join, a refused wait where its task is
abbrev pub lines_of_step : Naming → Naming → State → ℕ → Action → List TraceLine
lines_of_step task phaser s t (Makes p) = Announces (task t) (Joins (phaser p) 0) None ∷ []
lines_of_step task phaser s t (Registers c p) = Announces (task c) (join_with (phaser p) (s.phases t p)) None ∷ []
lines_of_step task phaser s t (Forks c) = []
lines_of_step task phaser s t (Advances p) = Announces (task t) (Arrives (phaser p)) None ∷ []
lines_of_step task phaser s t (Drops p) = Announces (task t) (Leaves (phaser p)) None ∷ []
lines_of_step task phaser s t (Blocks a) = Announces (task t) (wait_on phaser (awaited (Some (Blocks a)) (s.phases t))) None ∷ []
lines_of_step task phaser s t (Passes p) = Announces (task t) Goes None ∷ []
lines_of_step task phaser s t (Refuses a) = Announces (task t) Stands None ∷ []

-- the lines of a run, the last one first
abbrev pub lines_of_run : Naming → Naming → List Step → List TraceLine
lines_of_run task phaser [] = []
lines_of_run task phaser (e ∷ h) = lines_of_step task phaser (state_after h) e.task e.action ++ lines_of_run task phaser h

-- the condition of a task that is published on the event
abbrev pub condition_by : Naming → Option Event → Condition
condition_by phaser None = Running
condition_by phaser (Some e) = Waiting (phaser e.p.0) e.n

-- all that are listed are tasks, and each task has the same memberships and phases in both, and the same wait
pub record IsSameState (task phaser : Naming) (g : TraceState) (s : State) : Type 0 where
  pub tasks : (u : Participant) → Contains g.list u → (t : ℕ) × (u.name ≡ task t)
  pub phases : (t p : ℕ) → phase_on (participant_in g (task t)) (phaser p) ≡ s.phases t p
  pub waits : (t : ℕ) → (participant_in g (task t)).condition ≡ condition_by phaser (s.published t)

-- the lines of the run are a legal and lasting trace that leads to the same state, and so its stuck tasks are the dead
pub record IsTraceOfRun (task phaser : Naming) (h : List Step) (g : List TraceLine) : Type 0 where
  pub legal : IsLegalTrace g
  pub lasting : IsLasting g
  pub same : IsSameState task phaser (after_lines g) (state_after h)
  pub stuck : (t : ℕ) → IsStuck (after_lines g) (participant_in (after_lines g) (task t)) ↔ IsDeadIn (state_after h) t

-- a run of a checked plan is a legal and lasting trace that leads to the state of the run, and whoever is stuck in it is dead there
abbrev pub RunsAreTraces : Type 0
RunsAreTraces =
    (plan : Plan) (h : List Step) (task phaser : Naming) → IsCheckedPlan plan → TellsNumber task → TellsNumber phaser → IsLegalRun plan h →
    IsTraceOfRun task phaser h (lines_of_run task phaser h)
