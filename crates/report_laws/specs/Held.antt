-- A held task waits, through held ones, for one that has ended or is unforked; in PL 2 for an unforked one.
use Rattle.std.specs.Prelude.{◌≡◌, ℕ, true, None}
use Rattle.armus_base.specs.declared.ending.TaskEnd.TheVariants.{Done, Unforked}
use Rattle.armus_base.specs.AgreementLaws.{WaitsForEnded, WaitsForTask}
use Rattle.armus_base.specs.Deadlocks.{IsHeld}
use Rattle.armus_base.specs.Finals.{end_of}
use Rattle.armus_base.specs.Plans.{Plan}
use Rattle.armus_base.specs.Runs.{IsFinal}
use Rattle.armus_base.specs.States.{State}
use Rattle.adaptive.specs.declared.analysis.Wanted.{Wanted}
use Rattle.pl_syntax.specs.declared.tree.Program.{Program}
use Rattle.program_io.specs.Texts.{Text}
use Rattle.program_io.specs.Programs.{IsChecked, IsPlanOf}
use Rattle.armus_top.specs.Runs.{IsRunOf}

-- so does each task that a run of a text reports as held
abbrev pub HeldTasksHaveEnd : Type 0
HeldTasksHaveEnd =
    (text : Text) (plan : Plan) (g : Wanted) (status : ℕ) (report : Text) → IsPlanOf text plan → (run : IsRunOf plan g status report) (t : ℕ) →
    IsHeld run.state t → WaitsForEnded run.state t

-- where a text of PL 2 has run to its end, whoever has ended there is a member of nothing
abbrev pub EndedHaveLeft : Type 0
EndedHaveLeft =
    (text : Text) (program : Program) (plan : Plan) (f : State) (u p : ℕ) → IsChecked text program plan → program.two ≡ true → IsFinal plan f →
    end_of f u ≡ Done → f.phases u p ≡ None

-- a task that waits for an unforked one, or for a held one that does so
pub data WaitsForUnforked (s : State) : ℕ → Type 0 where
  at_unforked : {t : ℕ} (u : ℕ) → WaitsForTask s t u → end_of s u ≡ Unforked → WaitsForUnforked s t
  by_held : {t : ℕ} (u : ℕ) → WaitsForTask s t u → IsHeld s u → WaitsForUnforked s u → WaitsForUnforked s t

-- so each held task does there
abbrev pub HeldWaitForUnforked : Type 0
HeldWaitForUnforked =
    (text : Text) (program : Program) (plan : Plan) (f : State) (t : ℕ) → IsChecked text program plan → program.two ≡ true → IsFinal plan f → IsHeld f t →
    WaitsForUnforked f t
