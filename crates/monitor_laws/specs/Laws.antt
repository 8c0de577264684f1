-- The laws of the monitor.
use Rattle.std.specs.Prelude.{◌≡◌, ℕ, eqb, false, Option, List, [], ◌∷◌, ◌++◌, map, filter, bytes_eq}
use Rattle.std.specs.List.{starts_with}
use Rattle.monitor_laws.specs.Lines.{TraceLine, AreGone, Announces, Waits}
use Rattle.monitor_laws.specs.States.{Participant, TraceState, after_lines}
use Rattle.monitor_laws.specs.Stuck.{IsStuck}
use Rattle.monitor_laws.specs.Traces.{HasNoWildcard, HasOrderedJoins, HasTrueGoes, HaveSameLinesOfNames, IsHonest, IsLasting, IsLegalTrace, IsMixedFrom, is_line_of}
use Rattle.monitor_laws.specs.Guards.{IsGuarded}

-- no line says that the name is gone
abbrev pub IsNeverGone : List ℕ → List TraceLine → Type 0
IsNeverGone t [] = Unit {0}
IsNeverGone t (l ∷ h) = IsNeverGone t h × ((beginning : List ℕ) → l ≡ AreGone beginning → starts_with eqb t beginning ≡ false)

-- in every honest continuation of an honest trace whoever is stuck and is not gone stays so, at the same wait
abbrev pub StuckStays : Type 0
StuckStays =
    (h more : List TraceLine) (t : Participant) → IsLegalTrace (more ++ h) → IsHonest (more ++ h) → IsNeverGone t.name more →
    IsStuck (after_lines h) t → IsStuck (after_lines (more ++ h)) t

-- what stands of a guarded trace is legal
abbrev pub GuardedIsLegal : Type 0
GuardedIsLegal = (all h : List TraceLine) → IsGuarded all h → IsLegalTrace h

-- and no wait of it makes anybody stuck
abbrev pub NoWaitMakesStuck : Type 0
NoWaitMakesStuck =
    (all h : List TraceLine) (t : List ℕ) (p : List ℕ) (n : ℕ) (place : Option (List ℕ)) (u : Participant) →
    IsGuarded all (Announces t (Waits p n) place ∷ h) → IsStuck (after_lines (Announces t (Waits p n) place ∷ h)) u → IsStuck (after_lines h) u

-- a trace is lasting where each go comes only where nobody keeps its task waiting, and each join of p is the first line with p or comes while some member of p has
-- its phase at most
abbrev pub TrueAndOrderedLasts : Type 0
TrueAndOrderedLasts = (h : List TraceLine) → HasTrueGoes h → HasOrderedJoins h → IsLasting h

-- all that are listed with a name, apart from their numbers
abbrev pub unnumbered : Participant → Participant
unnumbered u = record u { number = 0 }

-- those of the list with a name, apart from their numbers
abbrev pub own_list : TraceState → List ℕ → List Participant
own_list s t = map unnumbered (filter (λ u. bytes_eq t u.name) s.list)

-- two traces without wildcards that have the same lines of each name have the same states of all names
abbrev pub SameLinesSameStates : Type 0
SameLinesSameStates =
    (h g : List TraceLine) → HasNoWildcard h → HasNoWildcard g → HaveSameLinesOfNames h g → (t : List ℕ) → own_list (after_lines h) t ≡ own_list (after_lines g) t

-- whoever is stuck in a mix of first lines of a lasting trace without wildcards is stuck in that trace, at the same wait, and has no more lines in it
abbrev pub WhoIsToldIsStuck : Type 0
WhoIsToldIsStuck =
    (h c : List TraceLine) (t : Participant) → IsLegalTrace h → HasNoWildcard h → HasNoWildcard c → IsLasting h → IsMixedFrom c h → IsStuck (after_lines c) t →
    ((u : Participant) × IsStuck (after_lines h) u × (unnumbered u ≡ unnumbered t)) × (filter (is_line_of t.name) h ≡ filter (is_line_of t.name) c)

-- whoever is stuck at some moment of such a mix is so from then on
abbrev pub NothingIsTakenBack : Type 0
NothingIsTakenBack =
    (h g more : List TraceLine) (t : Participant) → IsLegalTrace h → HasNoWildcard h → HasNoWildcard (more ++ g) → IsLasting h → IsMixedFrom (more ++ g) h →
    IsStuck (after_lines g) t → (u : Participant) × IsStuck (after_lines (more ++ g)) u × (unnumbered u ≡ unnumbered t)

-- once all lines have come, in whatever order, all that are stuck are so in the mix
abbrev pub AllAreTold : Type 0
AllAreTold =
    (h c : List TraceLine) (t : Participant) → HasNoWildcard h → HasNoWildcard c → HaveSameLinesOfNames h c → IsStuck (after_lines h) t →
    (u : Participant) × IsStuck (after_lines c) u × (unnumbered u ≡ unnumbered t)
