-- What holds of messages: a line has one at most, and what they name by a relation is there.
use Rattle.std.specs.Prelude.{◌≡◌, ℕ, ◌<◌, Bool, List, AllPairs}
use Rattle.monitor_laws.specs.Lines.{TraceLine}
use Rattle.monitor_laws.specs.States.{Participant, after_lines}
use Rattle.monitor_words.specs.Stops.{IsCircle, IsFirstCircle}
use Rattle.monitor_words.specs.Reasons.{IsStuckBecause, StuckBecause}
use Rattle.monitor_words.specs.Messages.{IsMessage}

-- numbers ascend in the list
abbrev pub NumbersAscend : Type 0
NumbersAscend = (h : List TraceLine) → AllPairs (λ t u. t.number < u.number) (after_lines h).list

-- at most one circle of a task is the first of the shortest
abbrev pub HasOneCircle : Type 0
HasOneCircle =
    (h : List TraceLine) (stuck : ℕ → Bool) (f : Participant) (others more : List Participant) → IsFirstCircle (after_lines h) stuck f others →
    IsFirstCircle (after_lines h) stuck f more → others ≡ more

-- where a task has a circle, one of its circles is
abbrev pub HasSomeCircle : Type 0
HasSomeCircle =
    (h : List TraceLine) (stuck : ℕ → Bool) (f : Participant) (others : List Participant) →
    IsCircle (after_lines h) stuck f others → (more : List Participant) × IsFirstCircle (after_lines h) stuck f more

-- a task is stuck because of one thing
abbrev pub HasOneReason : Type 0
HasOneReason =
    (h : List TraceLine) (stuck : ℕ → Bool) (f : Participant) (one other : StuckBecause) → IsStuckBecause (after_lines h) stuck f one →
    IsStuckBecause (after_lines h) stuck f other → one ≡ other

-- and because of something
abbrev pub HasSomeReason : Type 0
HasSomeReason =
    (h : List TraceLine) (stuck : ℕ → Bool) (f : Participant) → (because : StuckBecause) × IsStuckBecause (after_lines h) stuck f because

-- a line has one message
abbrev pub HasOneMessage : Type 0
HasOneMessage =
    (h : List TraceLine) (l : TraceLine) (one other : List ℕ) → IsMessage (after_lines h) l one → IsMessage (after_lines h) l other → one ≡ other
