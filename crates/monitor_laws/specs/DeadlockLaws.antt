-- Where nobody has ended and there is no wildcard, stuck is deadlocked, as everywhere.
use Rattle.std.specs.Prelude.{◌≡◌, ℕ, true, ◌||◌, Bool, Contains, Some, List, ◌↔◌}
use Rattle.armus_base.specs.Deadlocks.{HasPhase, IsDead, WaitsOn}
use Rattle.monitor_laws.specs.Lines.{TraceLine}
use Rattle.monitor_laws.specs.States.{Participant, TraceState, after_lines, is_live_task}
use Rattle.monitor_laws.specs.Faults.{phase_on}
use Rattle.monitor_laws.specs.Stuck.{IsClosedSet, IsStuck, WaitsForPhase}

-- the task with this number waits on the event; number is a number for each phaser's name
abbrev pub AwaitsByNumber : TraceState → (List ℕ → ℕ) → WaitsOn
AwaitsByNumber s number k e =
    (t : Participant) × Contains s.list t × (t.number ≡ k) × (p : List ℕ) × (n : ℕ) × WaitsForPhase t p n × (number p ≡ e.p.0) × (n ≡ e.n)

-- the task with this number is a member of the phaser with this phase
abbrev pub HasPhaseByNumber : TraceState → (List ℕ → ℕ) → HasPhase
HasPhaseByNumber s number k q m = (u : Participant) × Contains s.list u × (u.number ≡ k) × (p : List ℕ) × (number p ≡ q) × (phase_on u p ≡ Some m)

-- whoever is stuck where nobody has ended and there is no wildcard is dead, and who is dead is stuck
abbrev pub StuckIsDeadlocked : Type 0
StuckIsDeadlocked =
    (h : List TraceLine) (number : List ℕ → ℕ) (t : Participant) → ((p q : List ℕ) → number p ≡ number q → p ≡ q) →
    ((u : Participant) → Contains (after_lines h).list u → is_live_task u.condition ≡ true) → Contains (after_lines h).list t →
    IsStuck (after_lines h) t ↔ IsDead (AwaitsByNumber (after_lines h) number) (HasPhaseByNumber (after_lines h) number) t.number

-- the union of closed sets is closed, so there is a greatest one
abbrev pub UnionsAreClosed : Type 0
UnionsAreClosed = (s : TraceState) (one other : ℕ → Bool) → IsClosedSet s one → IsClosedSet s other → IsClosedSet s (λ k. one k || other k)
