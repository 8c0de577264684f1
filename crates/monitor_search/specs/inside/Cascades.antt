-- Taking out one after the other who stands in no closed set.
use Rattle.std.specs.Prelude.{◌≡◌, ℕ, Bool, true, false, Option, Some, None, List, [], Contains, bytes_eq, is_some}
use Rattle.std.specs.Borrow.{Bor}
use Rattle.std.specs.Global.{Vec}
use Rattle.std.specs.HashMap.{HashMap, get_by}
use Rattle.monitor_laws.specs.States.{Condition, Running, Waiting, Ended, AnyTask, OneOf, Participant, TraceState, is_live_task}
use Rattle.monitor_laws.specs.Faults.{phase_on}
use Rattle.monitor_laws.specs.Stuck.{IsClosedSet, has_phase_below, is_phase_below}
use Rattle.monitor_search.specs.inside.Partings.{referred}

-- those whom a group has
abbrev pub those_of : Option (Vec (Bor Participant)) → List Participant
those_of None = []
those_of (Some group) = referred group.items

-- the group with a name
abbrev pub named_group : {S : Type 0} → HashMap (Bor (List ℕ)) (Vec (Bor Participant)) S → List ℕ → List Participant
named_group groups q = those_of (get_by (λ k. bytes_eq q k.now) groups)

-- nobody with one of these numbers stands in a closed set
abbrev pub AreOut : TraceState → (ℕ → Bool) → Type 0
AreOut s out = (set : ℕ → Bool) → IsClosedSet s set → (k : ℕ) → out k ≡ true → set k ≡ false

-- whoever of the list is a member of a phaser is in the group with its name
abbrev pub HaveMembers : List Participant → (List ℕ → List Participant) → Type 0
HaveMembers list group = (u : Participant) (q : List ℕ) → Contains list u → is_some (phase_on u q) ≡ true → Contains (group q) u

-- whoever is in a group is of the list
abbrev pub AreOfList : List Participant → (List ℕ → List Participant) → Type 0
AreOfList list group = (u : Participant) (q : List ℕ) → Contains (group q) u → Contains list u

-- whoever is a member of phaser p and stands in a closed set has a phase that is not below this one, or nobody does
abbrev pub IsLeastInside : TraceState → List ℕ → Option ℕ → Type 0
IsLeastInside s p least =
    (set : ℕ → Bool) → IsClosedSet s set → (u : Participant) → Contains s.list u → set u.number ≡ true → (n : ℕ) → has_phase_below u p n ≡ true →
    is_phase_below least n ≡ true

-- it waits for phase n of p, and the least phase is not below n
abbrev pub IsFreeWait : Participant → List ℕ → Option ℕ → Type 0
IsFreeWait t p least = (n : ℕ) × (t.condition ≡ Waiting p n) × (is_phase_below least n ≡ false)

-- it stands in no closed set
abbrev pub IsOut : TraceState → Participant → Type 0
IsOut s t = (set : ℕ → Bool) → IsClosedSet s set → set t.number ≡ false

-- a task of the list that has not ended has this number
abbrev pub HasLiveNumber : List Participant → ℕ → Type 0
HasLiveNumber list k = (u : Participant) × Contains list u × (u.number ≡ k) × (is_live_task u.condition ≡ true)

-- one of these numbers is out, and is that of a task of the list that has not ended
abbrev pub HasLiveOut : List Participant → List ℕ → (ℕ → Bool) → Type 0
HasLiveOut list tasks out = (k : ℕ) × Contains tasks k × (out k ≡ true) × HasLiveNumber list k

-- who is in this condition is a wildcard of such tasks
abbrev pub IsPlayedOut : List Participant → Condition → (ℕ → Bool) → Type 0
IsPlayedOut list Running out = ⊥
IsPlayedOut list (Waiting p n) out = ⊥
IsPlayedOut list Ended out = ⊥
IsPlayedOut list AnyTask out = ⊥
IsPlayedOut list (OneOf names tasks) out = HasLiveOut list tasks out
