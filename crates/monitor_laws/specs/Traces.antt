-- Traces, the last line first: legal, lasting, honest, and the mix of lines.
use Rattle.std.specs.Prelude.{◌≡◌, ℕ, ◌≤◌, Bool, true, false, Option, Some, List, [], ◌∷◌, ◌++◌, ◌⊎◌, Contains, filter, bytes_eq}
use Rattle.std.specs.List.{list_any}
use Rattle.monitor_laws.specs.Lines.{Announcement, Joins, Arrives, Leaves, Waits, Goes, Ends, Stands, TraceLine, SaysNothing, AsksReport, AsksList, AreGone, Announces, PlaysAny, PlaysOneOf}
use Rattle.monitor_laws.specs.States.{Condition, Running, Waiting, Ended, AnyTask, OneOf, Participant, TraceState, after_lines, is_live_wildcard, is_there_as}
use Rattle.monitor_laws.specs.Faults.{faults_of, phase_on}
use Rattle.monitor_laws.specs.Stuck.{WaitsForPhase, has_phase_below}

-- no line is at fault
abbrev pub IsLegalTrace : List TraceLine → Type 0
IsLegalTrace [] = Unit {0}
IsLegalTrace (l ∷ h) = IsLegalTrace h × (faults_of (after_lines h) l ≡ [])

-- no member of p has a phase below n
abbrev pub NobodyIsBelow : TraceState → List ℕ → ℕ → Type 0
NobodyIsBelow s p n = (u : Participant) → Contains s.list u → has_phase_below u p n ≡ false

-- the line is a go that ends a wait for p@n
abbrev pub EndsWait : TraceState → TraceLine → List ℕ → ℕ → Type 0
EndsWait s l p n =
    (t : Participant) × (place : Option (List ℕ)) × (l ≡ Announces t.name Goes place) × Contains s.list t × WaitsForPhase t p n

-- some go has ended a wait for p@n
abbrev pub WasPassed : List TraceLine → List ℕ → ℕ → Type 0
WasPassed [] p n = ⊥
WasPassed (l ∷ h) p n = WasPassed h p n ⊎ EndsWait (after_lines h) l p n

-- from each go on that ends a wait for p@n no member of p has a phase below n
abbrev pub IsLasting : List TraceLine → Type 0
IsLasting [] = Unit {0}
IsLasting (l ∷ h) = IsLasting h × ((p : List ℕ) (n : ℕ) → WasPassed (l ∷ h) p n → NobodyIsBelow (after_lines (l ∷ h)) p n)

-- some task runs
abbrev pub SomebodyRuns : TraceState → Type 0
SomebodyRuns s = (u : Participant) × Contains s.list u × (u.condition ≡ Running)

-- no task waits
abbrev pub NobodyWaits : TraceState → Type 0
NobodyWaits s = (u : Participant) → Contains s.list u → (p : List ℕ) (n : ℕ) → WaitsForPhase u p n → ⊥

-- the task may play a wildcard in this condition
abbrev pub MayPlay : Participant → Condition → Type 0
MayPlay u Running = ⊥
MayPlay u (Waiting p n) = ⊥
MayPlay u Ended = ⊥
MayPlay u AnyTask = Unit {0}
MayPlay u (OneOf names tasks) = Contains tasks u.number

-- the line is an arrive, leave or end of this name, or says who may play it
abbrev pub IsActOf : List ℕ → TraceLine → Type 0
IsActOf w SaysNothing = ⊥
IsActOf w AsksReport = ⊥
IsActOf w AsksList = ⊥
IsActOf w (AreGone beginning) = ⊥
IsActOf w (Announces t (Arrives p) place) = t ≡ w
IsActOf w (Announces t (Leaves p) place) = t ≡ w
IsActOf w (Announces t Ends place) = t ≡ w
IsActOf w (Announces t (Joins p n) place) = ⊥
IsActOf w (Announces t (Waits p n) place) = ⊥
IsActOf w (Announces t Goes place) = ⊥
IsActOf w (Announces t Stands place) = ⊥
IsActOf w (PlaysAny t) = t ≡ w
IsActOf w (PlaysOneOf t names) = t ≡ w

-- a new task comes by this line
abbrev pub BringsTask : TraceState → TraceLine → Type 0
BringsTask s l =
    (t : List ℕ) × (what : Announcement) × (place : Option (List ℕ)) × (l ≡ Announces t what place) × (list_any (is_there_as t) s.list ≡ false)

-- an honest line: a go comes only where nobody keeps its task waiting; what a wildcard does, only while a task that may play it runs; a new task, only while some
-- task runs or nobody waits
pub record IsHonestLine (s : TraceState) (l : TraceLine) : Type 0 where
  pub goes : (p : List ℕ) (n : ℕ) → EndsWait s l p n → NobodyIsBelow s p n
  pub plays :
      (w : Participant) → Contains s.list w → is_live_wildcard w.condition ≡ true → IsActOf w.name l →
      (u : Participant) × Contains s.list u × (u.condition ≡ Running) × MayPlay u w.condition
  pub comes : BringsTask s l → SomebodyRuns s ⊎ NobodyWaits s

-- each line of the trace is honest where it comes
abbrev pub IsHonest : List TraceLine → Type 0
IsHonest [] = Unit {0}
IsHonest (l ∷ h) = IsHonest h × IsHonestLine (after_lines h) l

-- the line is of no wildcard, and nobody is gone by it
abbrev pub is_of_task : TraceLine → Bool
is_of_task SaysNothing = true
is_of_task AsksReport = true
is_of_task AsksList = true
is_of_task (AreGone beginning) = false
is_of_task (Announces t what place) = true
is_of_task (PlaysAny w) = false
is_of_task (PlaysOneOf w names) = false

-- no line is of a wildcard or says that somebody is gone
abbrev pub HasNoWildcard : List TraceLine → Type 0
HasNoWildcard [] = Unit {0}
HasNoWildcard (l ∷ h) = HasNoWildcard h × (is_of_task l ≡ true)

-- the line is one of this name
abbrev pub is_line_of : List ℕ → TraceLine → Bool
is_line_of t SaysNothing = false
is_line_of t AsksReport = false
is_line_of t AsksList = false
is_line_of t (AreGone beginning) = false
is_line_of t (Announces u what place) = bytes_eq t u
is_line_of t (PlaysAny w) = bytes_eq t w
is_line_of t (PlaysOneOf w names) = bytes_eq t w

-- the lines of each name in c are the first ones of that name's lines in h
abbrev pub IsMixedFrom : List TraceLine → List TraceLine → Type 0
IsMixedFrom c h = (t : List ℕ) → (later : List TraceLine) × (filter (is_line_of t) h ≡ later ++ filter (is_line_of t) c)

-- both have the same lines of each name
abbrev pub HaveSameLinesOfNames : List TraceLine → List TraceLine → Type 0
HaveSameLinesOfNames c h = (t : List ℕ) → filter (is_line_of t) c ≡ filter (is_line_of t) h

-- the line has the phaser
abbrev pub IsOfPhaser : List ℕ → TraceLine → Type 0
IsOfPhaser p SaysNothing = ⊥
IsOfPhaser p AsksReport = ⊥
IsOfPhaser p AsksList = ⊥
IsOfPhaser p (AreGone beginning) = ⊥
IsOfPhaser p (Announces t (Joins q n) place) = q ≡ p
IsOfPhaser p (Announces t (Arrives q) place) = q ≡ p
IsOfPhaser p (Announces t (Leaves q) place) = q ≡ p
IsOfPhaser p (Announces t (Waits q n) place) = q ≡ p
IsOfPhaser p (Announces t Goes place) = ⊥
IsOfPhaser p (Announces t Ends place) = ⊥
IsOfPhaser p (Announces t Stands place) = ⊥
IsOfPhaser p (PlaysAny w) = ⊥
IsOfPhaser p (PlaysOneOf w names) = ⊥

-- the line is a join of p with phase n
abbrev pub JoinsAt : TraceLine → List ℕ → ℕ → Type 0
JoinsAt l p n = (t : List ℕ) × (place : Option (List ℕ)) × (l ≡ Announces t (Joins p n) place)

-- each go comes only where nobody keeps its task waiting
abbrev pub HasTrueGoes : List TraceLine → Type 0
HasTrueGoes [] = Unit {0}
HasTrueGoes (l ∷ h) = HasTrueGoes h × ((p : List ℕ) (n : ℕ) → EndsWait (after_lines h) l p n → NobodyIsBelow (after_lines h) p n)

-- each join of p with phase n is the first line with p, or comes while some member of p has a phase of n at most
abbrev pub HasOrderedJoins : List TraceLine → Type 0
HasOrderedJoins [] = Unit {0}
HasOrderedJoins (l ∷ h) =
    HasOrderedJoins h
    × ((p : List ℕ) (n : ℕ) → JoinsAt l p n →
    ((d : TraceLine) → Contains h d → IsOfPhaser p d → ⊥)
    ⊎ ((u : Participant) × (m : ℕ) × Contains (after_lines h).list u × (phase_on u p ≡ Some m) × (m ≤ n)))
