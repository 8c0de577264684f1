-- Who is stuck can be known, and all that are stuck were told.
use Rattle.std.specs.Prelude.{◌≡◌, ℕ, Bool, true, List, ◌∷◌, ◌++◌, Option, Contains}
use Rattle.monitor_laws.specs.Lines.{TraceLine, Announces, Waits}
use Rattle.monitor_laws.specs.States.{Participant, TraceState, after_lines}
use Rattle.monitor_laws.specs.Stuck.{IsClosedSet, IsStuck}
use Rattle.monitor_laws.specs.Traces.{HasNoWildcard, HaveSameLinesOfNames}
use Rattle.monitor_laws.specs.Laws.{unnumbered}

-- the greatest closed set: it is closed, and has each of the list that stands in a closed set
pub record IsGreatestClosedSet (s : TraceState) (set : ℕ → Bool) : Type 0 where
  pub closed : IsClosedSet s set
  pub greatest : (other : ℕ → Bool) → IsClosedSet s other → (t : Participant) → Contains s.list t → other t.number ≡ true → set t.number ≡ true

-- in each state some test finds the greatest closed set
abbrev pub StuckIsKnown : Type 0
StuckIsKnown = (s : TraceState) → (set : ℕ → Bool) × IsGreatestClosedSet s set

-- the task with this number is stuck
abbrev pub IsStuckByNumber : TraceState → ℕ → Type 0
IsStuckByNumber s k = (t : Participant) × IsStuck s t × (t.number ≡ k)

-- a line by which the task with this number became stuck, and from which on it was stuck
pub record WasTold (h : List TraceLine) (k : ℕ) : Type 0 where
  pub later : List TraceLine
  pub line : TraceLine
  pub before : List TraceLine
  pub is : h ≡ later ++ line ∷ before
  pub was_not : IsStuckByNumber (after_lines before) k → ⊥
  pub since : (last more : List TraceLine) → later ≡ last ++ more → IsStuckByNumber (after_lines (more ++ line ∷ before)) k

-- all that are stuck were told
abbrev pub StuckWereTold : Type 0
StuckWereTold = (h : List TraceLine) (t : Participant) → IsStuck (after_lines h) t → WasTold h t.number

-- once all lines of a trace without wildcards have come, in whatever order, all that are stuck in it were told
abbrev pub AllWereTold : Type 0
AllWereTold =
    (h c : List TraceLine) (t : Participant) → HasNoWildcard h → HasNoWildcard c → HaveSameLinesOfNames h c → IsStuck (after_lines h) t →
    (u : Participant) × WasTold c u.number × IsStuck (after_lines c) u × (unnumbered u ≡ unnumbered t)

-- a wait by which anybody becomes stuck makes its own task stuck
abbrev pub OwnWaitSticks : Type 0
OwnWaitSticks =
    (h : List TraceLine) (t p : List ℕ) (n : ℕ) (place : Option (List ℕ)) (u : Participant) → IsStuck (after_lines (Announces t (Waits p n) place ∷ h)) u →
    (IsStuck (after_lines h) u → ⊥) → (v : Participant) × IsStuck (after_lines (Announces t (Waits p n) place ∷ h)) v × (v.name ≡ t)
