-- What it means that the stuck tasks of a state are known.
use Rattle.std.specs.Prelude.{◌≡◌, ℕ, Bool, ◌==◌, List, [], filter, map}
use Rattle.std.specs.List.{list_any}
use Rattle.monitor_laws.specs.Lines.{TraceLine}
use Rattle.monitor_laws.specs.States.{Participant, TraceState, after_line}
use Rattle.monitor_laws.specs.Faults.{faults_of}
use Rattle.monitor_laws.specs.Lawful.{IsLawfulState}
use Rattle.monitor_words.specs.Stops.{TellsStuck}

-- a task as it is known: its number and its name
abbrev pub known_task : Participant → ℕ × List ℕ
known_task u = (u.number, u.name)

-- the test that known tasks make: a number is that of one of them
abbrev pub has_stuck_number : List (ℕ × List ℕ) → ℕ → Bool
has_stuck_number known k = list_any (λ t. t.0 == k) known

-- these are just the stuck tasks of the state, in list order
pub record AreStuckTasks (s : TraceState) (known : List (ℕ × List ℕ)) : Type 0 where
  pub tells : TellsStuck s (has_stuck_number known)
  pub ordered : known ≡ map known_task (filter (λ u. has_stuck_number known u.number) s.list)

-- the stuck tasks of a state are known in one way
abbrev pub OneKnown : Type 0
OneKnown = (s : TraceState) (known more : List (ℕ × List ℕ)) → AreStuckTasks s known → AreStuckTasks s more → known ≡ more

-- after this line, which is legal, just these are stuck, where those were in the state before it
abbrev pub AreStuckAfter : TraceState → TraceLine → (was known : List (ℕ × List ℕ)) → Type 0
AreStuckAfter after l was known =
    (s : TraceState) → IsLawfulState s → after ≡ after_line s l → faults_of s l ≡ [] → AreStuckTasks s was → AreStuckTasks after known

-- after this line, which is legal, the same are stuck as in the state before it
abbrev pub KeepsStuck : TraceState → TraceLine → List (ℕ × List ℕ) → Type 0
KeepsStuck after l known = AreStuckAfter after l known known
