-- The guard: a wait whose task would be stuck is refused, and stands as a line that says nothing but where its task is.
use Rattle.std.specs.Prelude.{◌≡◌, ℕ, List, [], ◌∷◌, ◌⊎◌, Option}
use Rattle.monitor_laws.specs.Lines.{Waits, Stands, TraceLine, Announces}
use Rattle.monitor_laws.specs.States.{Participant, TraceState, after_line, after_lines}
use Rattle.monitor_laws.specs.Stuck.{IsStuck}
use Rattle.monitor_laws.specs.Faults.{faults_of}

-- the line is a wait, by which its task would be stuck
pub record IsRefusedWait (s : TraceState) (l : TraceLine) : Type 0 where
  pub task : Participant
  pub p : List ℕ
  pub n : ℕ
  pub place : Option (List ℕ)
  pub is : l ≡ Announces task.name (Waits p n) place
  pub stuck : IsStuck (after_line s l) task

-- of the line stands d: of a refused wait that its task is there at its place, and each other line as it is
abbrev pub IsTakenAs : TraceState → TraceLine → TraceLine → Type 0
IsTakenAs s l d =
    ((refused : IsRefusedWait s l) × (d ≡ Announces refused.task.name Stands refused.place))
    ⊎ ((IsRefusedWait s l → ⊥) × (d ≡ l))

-- of the lines of a guarded trace, each legal when it comes, stands h
abbrev pub IsGuarded : List TraceLine → List TraceLine → Type 0
IsGuarded [] [] = Unit {0}
IsGuarded [] (d ∷ h) = ⊥
IsGuarded (l ∷ all) [] = ⊥
IsGuarded (l ∷ all) (d ∷ h) = IsGuarded all h × (faults_of (after_lines h) l ≡ []) × IsTakenAs (after_lines h) l d
