-- Lists of dead tasks, each named once with its event.
use Rattle.std.specs.Prelude.{◌≡◌, ◌≢◌, ℕ, List, AllPairs, Contains}
use Rattle.armus_base.specs.declared.status.Dead.{Dead}
use Rattle.armus_base.specs.declared.status.Status.{Status}
use Rattle.armus_base.specs.Deadlocks.{IsDeadBy, IsListedOn}

-- dead tasks of the statuses, none twice, each with its event
pub record AreSomeDead (blocked : List Status) (named : List Dead) : Type 0 where
  pub once : AllPairs (λ a b. a.t ≢ b.t) named
  pub dead : (d : Dead) → Contains named d → IsDeadBy blocked d.t.0 × IsListedOn blocked d.t.0 d.event

-- all dead tasks of the statuses, each once, in any order, each with its event
pub record AreTheDead (blocked : List Status) (named : List Dead) : Type 0 where
  pub some : AreSomeDead blocked named
  pub all : (t : ℕ) → IsDeadBy blocked t → (d : Dead) × Contains named d × (d.t.0 ≡ t)
