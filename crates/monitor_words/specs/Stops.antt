-- Who stops whom, and the circle of a task. A task of the list stands before another where its number is lower.
use Rattle.std.specs.Prelude.{◌≡◌, ℕ, ◌<◌, ◌≤◌, ◌==◌, Bool, true, false, ◌&&◌, ◌||◌, Option, Some, None, List, [], ◌∷◌, ◌⊎◌, ◌↔◌, Contains, length}
use Rattle.std.specs.List.{list_any}
use Rattle.armus_base.specs.Counts.{IsDistinct}
use Rattle.monitor_laws.specs.States.{Condition, Waiting, OneOf, Participant, TraceState}
use Rattle.monitor_laws.specs.Stuck.{IsStuck, has_phase_below}

-- the test tells the numbers of the stuck tasks
abbrev pub TellsStuck : TraceState → (ℕ → Bool) → Type 0
TellsStuck s stuck = (k : ℕ) → (stuck k ≡ true) ↔ ((t : Participant) × IsStuck s t × (t.number ≡ k))

-- the phaser and the phase for which somebody in this condition waits
abbrev pub waited_for : Condition → Option (List ℕ × ℕ)
waited_for (Waiting p n) = Some (p, n)
waited_for _ = None

-- a member of that phaser with a phase below
abbrev pub impedes_wait : Participant → Option (List ℕ × ℕ) → Bool
impedes_wait u None = false
impedes_wait u (Some e) = has_phase_below u e.0 e.1

-- u keeps t waiting
abbrev pub keeps_waiting : Participant → Participant → Bool
keeps_waiting u t = impedes_wait u (waited_for t.condition)

-- the task of a wildcard whose last line has one name
abbrev pub lone_task : Condition → List ℕ
lone_task (OneOf (name ∷ []) tasks) = tasks
lone_task _ = []

-- w is u, or a wildcard whose task u is
abbrev pub stands_for : Participant → Participant → Bool
stands_for w u = (w.number == u.number) || list_any (λ k. k == u.number) (lone_task w.condition)

-- task u stops t: it is stuck, and somebody who stands for it keeps t waiting
abbrev pub stops : TraceState → (ℕ → Bool) → Participant → Participant → Bool
stops s stuck u t = stuck u.number && list_any (λ w. stands_for w u && keeps_waiting w t) s.list

-- from t on each is stopped by the next, and the last by f
abbrev pub IsChain : TraceState → (ℕ → Bool) → Participant → Participant → List Participant → Type 0
IsChain s stuck f t [] = stops s stuck f t ≡ true
IsChain s stuck f t (u ∷ others) = Contains s.list u × (stops s stuck u t ≡ true) × IsChain s stuck f u others

-- a circle of f: f and these others, all different, each stopped by the next and the last by f
abbrev pub IsCircle : TraceState → (ℕ → Bool) → Participant → List Participant → Type 0
IsCircle s stuck f others = IsChain s stuck f f others × IsDistinct (f ∷ others)

-- and none of f is shorter
abbrev pub IsShortestCircle : TraceState → (ℕ → Bool) → Participant → List Participant → Type 0
IsShortestCircle s stuck f others =
    IsCircle s stuck f others × ((more : List Participant) → IsCircle s stuck f more → length others ≤ length more)

-- where two differ first, this one has the task that stands first in the list
abbrev pub ComesFirst : List Participant → List Participant → Type 0
ComesFirst [] more = Unit {0}
ComesFirst (t ∷ others) [] = ⊥
ComesFirst (t ∷ others) (u ∷ more) = (t.number < u.number) ⊎ ((t.number ≡ u.number) × ComesFirst others more)

-- the circle that is told: the first of the shortest
abbrev pub IsFirstCircle : TraceState → (ℕ → Bool) → Participant → List Participant → Type 0
IsFirstCircle s stuck f others =
    IsShortestCircle s stuck f others × ((more : List Participant) → IsShortestCircle s stuck f more → ComesFirst others more)
