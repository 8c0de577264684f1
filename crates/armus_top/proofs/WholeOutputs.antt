-- Whole outputs: a text has a plan or is refused, and statuses that tell.
use Rattle.std.proofs.Common.{ℕ, ◌≡◌, ◌⊎◌, length, inl, inr, refl, true, false}
use Rattle.std.specs.Prelude.{◌↔◌}
use Rattle.std.proofs.lemmas.Bool.{cases_Bool}
use Rattle.armus_base.specs.declared.ending.Final.{Final}
use Rattle.armus_base.specs.Deadlocks.{IsDeadBy, IsDeadIn}
use Rattle.armus_base.specs.Finals.{end_of}
use Rattle.armus_base.specs.Plans.{Plan}
use Rattle.armus_base.specs.States.{State}
use Rattle.armus_base.proofs.Tasks.{all_or_one}
use Rattle.command_line.specs.declared.command.Command.{Command}
use Rattle.report.specs.declared.refusal.Refusal.{Refusal}
use Rattle.report.specs.Reports.{IsCycleText}
use Rattle.program_io.specs.Texts.{Text}
use Rattle.armus_top.specs.Avoids.{TellsRefused, ended_refused}
use Rattle.armus_top.specs.Commands.{IsRefusedInput}
use Rattle.armus_top.specs.Headline.{Answers}
use Rattle.armus_top.specs.DeadStatus.{TellsDead}

-- a whole output of the command for the input
abbrev pub IsMet : Command → Text → Type 0
IsMet c input = (status : ℕ) × (text : Text) × Answers c input status text

pub refused : (c : Command) (input text : Text) → IsRefusedInput c input text → IsMet c input
refused c input text is = (3, text, inr (refl, is))

-- the cycle's text tells whether a task is dead
pub status_by : (state : State) (end : Final) (text : Text) → ((t : ℕ) → IsDeadBy end.blocked t ↔ IsDeadIn state t) → IsCycleText end.blocked text
    → (status : ℕ) × TellsDead state status
status_by state end text same (inl (none, is)) = (0, inr (refl, λ t d. none (t, (same t).1 d)))
status_by state end text same (inr (cycle, (start, least, walk), is)) = (1, inl (refl, (start.0, (same start.0).0 least.dead)))

pub status_refused : (plan : Plan) (state : State) → (status : ℕ) × TellsRefused plan state status
status_refused plan state =
    elim (all_or_one (λ t. ended_refused (end_of state t) ≡ false) (λ t. ended_refused (end_of state t) ≡ true) tell (length plan.parents)) [
      | inl none ↦ (0, inr (refl, none))
      | inr one ↦ (1, inl (refl, one))
    ]
  where
    tell : (t : ℕ) → (ended_refused (end_of state t) ≡ false) ⊎ (ended_refused (end_of state t) ≡ true)
    tell t = elim (cases_Bool (ended_refused (end_of state t))) [ inl on ↦ inr on | inr off ↦ inl off ]
