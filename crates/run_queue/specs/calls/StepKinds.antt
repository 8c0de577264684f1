-- What the next step of a task can change for others.
use Rattle.std.specs.Prelude.{◌≡◌, ◌⊎◌, ℕ, Some}
use Rattle.armus_base.specs.declared.event.Event.{Event}
use Rattle.armus_base.specs.Plans.{Action, Makes, Registers, Forks, Advances, Drops, Passes}
use Rattle.pl_core.specs.calls.Moves.{IsWorldStep, MakesRefusal}
use Rattle.pl_core.specs.calls.Stands.{IsAtAwaitOf}
use Rattle.pl_core.specs.calls.Worlds.{WorldValue, action_by_code}
use Rattle.run_queue.specs.declared.kinds.StepKind.{StepKind}
use Rattle.run_queue.specs.declared.kinds.StepKind.TheVariants.{Forks as ForksTask, Changes, Awaits, Passes as PassesOn}

-- the action changes phases of phaser p, and of no other
abbrev pub ChangesPhasesOf : Action → ℕ → Type 0
ChangesPhasesOf (Makes q) p = q ≡ p
ChangesPhasesOf (Registers c q) p = q ≡ p
ChangesPhasesOf (Advances q) p = q ≡ p
ChangesPhasesOf (Drops q) p = q ≡ p
ChangesPhasesOf x p = ⊥

-- the next step of task t is of this kind
abbrev pub IsOfKind : WorldValue → ℕ → StepKind → Type 0
IsOfKind w t (ForksTask c) = action_by_code w t ≡ Some (Forks c.0)
IsOfKind w t (Changes p) = (x : Action) × (action_by_code w t ≡ Some x) × ChangesPhasesOf x p.0
IsOfKind w t Awaits = (e : Event) × IsAtAwaitOf w t e
IsOfKind w t PassesOn = (p : ℕ) × (action_by_code w t ≡ Some (Passes p))

-- task t stood at an await, which was refused, and has left all its phasers
pub record WasRefused (old new : WorldValue) (t : ℕ) : Type 0 where
  pub event : Event
  pub before : IsAtAwaitOf old t event
  pub refusal : MakesRefusal old new t

-- task t has made its next step, or was refused at the await at which it stood
abbrev pub HasMoved : WorldValue → WorldValue → ℕ → Type 0
HasMoved old new t = IsWorldStep old new t ⊎ WasRefused old new t
