-- The status by which a command tells whether a task is dead.
use Rattle.std.specs.Prelude.{◌≡◌, ◌⊎◌, ℕ}
use Rattle.armus_base.specs.States.{State}
use Rattle.armus_base.specs.Deadlocks.{IsDeadIn, NobodyDead}

-- the status tells whether a task is dead in the state
abbrev pub TellsDead : State → ℕ → Type 0
TellsDead state status = ((status ≡ 1) × ((t : ℕ) × IsDeadIn state t)) ⊎ ((status ≡ 0) × NobodyDead state)
