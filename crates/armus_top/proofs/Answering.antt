-- From what a command answers to what the call leaves.
use Rattle.std.proofs.Common.{◌≡◌, ◌⊎◌, ℕ, Bool, inl, inr, refl, sym, subst}
use Rattle.std.specs.Prelude.{Option, Some}
use Rattle.clock_pl.specs.calls.ClockPlanning.{as_fault}
use Rattle.report.specs.Refusals.{refusal_text}
use Rattle.report.specs.declared.refusal.Refusal.{Refusal}
use Rattle.report.specs.declared.refusal.Refusal.TheVariants as refusal
use Rattle.command_line.specs.declared.command.Command.{Command}
use Rattle.command_line.specs.declared.command.Command.TheVariants as command
use Rattle.command_line.specs.declared.command.Graph.{Graph}
use Rattle.program_io.specs.Texts.{Text}
use Rattle.armus_top.specs.declared.output.InputEnd.{InputEnd}
use Rattle.armus_top.specs.declared.output.InputEnd.TheVariants.{Clock, NoMemory, Refused}
use Rattle.armus_top.specs.declared.output.Output.{Output}
use Rattle.armus_top.specs.Commands.{IsAnswered, IsRefusedInput, limit_of, writes_live}
use Rattle.program_io.specs.Passages.{EndsWith, GaveTooMuch, Passage}
use Rattle.armus_top.specs.Headline.{Answers, Ends, Permits}
use Rattle.armus_top.specs.inside.Answers.{IsClockInputEnd, IsEnd, IsEndOf}
use Rattle.armus_top.specs.inside.Reading.{EndsUnread, IsReadFor}
use Rattle.program_io.specs.calls.ExitNumbers.{number_of_status}
use Rattle.program_io.specs.calls.Writing.{Finished}
use Rattle.armus_top.specs.inside.Writing.{Answered, LeavesNothing, nothing, wrote}
use Rattle.armus_top.proofs.WaysToEnd.{ends_left, ends_without_input, leaves_one_of_more}

-- why a text has no plan is why a command has no answer that refuses its input for the faults of a text
pub end_of_text : (c : Command) (input : Text) (IsWhy : Refusal → Type 0) (end : InputEnd)
    → ((why : Refusal) → IsWhy why → IsRefusedInput c input (refusal_text why)) → IsEnd IsWhy end → IsEndOf c input end
end_of_text c input IsWhy (Refused why) refused is = refused why is
end_of_text c input IsWhy (Clock fault) refused is = absurd is
end_of_text c input IsWhy NoMemory refused is = tt

-- so it is of a clock text
pub end_of_clocks : (workers : ℕ) (g : Graph) (live : Bool) (input : Text) (end : InputEnd) → IsClockInputEnd input end → IsEndOf (command.Clock workers g live) input end
end_of_clocks workers g live input (Refused (refusal.Syntax fault)) is = inl (fault, is, refl)
end_of_clocks workers g live input (Clock fault) (program, reads, failed) = inr (program, as_fault fault, reads, failed, refl)
end_of_clocks workers g live input NoMemory is = tt
end_of_clocks workers g live input end is = absurd is

-- ---- what is written of an answer

-- an output was written whole
pub by_output : (c : Command) (input : Text) (o : Output) (out : Passage) (number : ℕ) → IsAnswered c input (number_of_status o.status) o.text
    → Finished out o.text (number_of_status o.status) number → Answered c input out number
by_output c input o out number is done = wrote (number_of_status o.status) o.text (inl is) done

-- the line of a refusal was
pub by_refusal : (c : Command) (input line : Text) (out : Passage) (number : ℕ) → IsRefusedInput c input line
    → (Finished out line 3 number) ⊎ LeavesNothing out number → Answered c input out number
by_refusal c input line out number is (inl done) = wrote 3 line (inr (refl, is)) done
by_refusal c input line out number is (inr (six, sound, kept)) = nothing six sound kept

-- ---- what the call leaves

-- a command that had this input
pub ends_by_answer : (c : Command) (src out : Passage) (input shown : Text) (number : ℕ) → shown ≡ input → IsReadFor c src input → Answered c shown out number
    → Ends (Some c) src out number
ends_by_answer c src out input shown number same (has, still, read) answered =
    let left : Answered c input out number = subst (λ (t : Text). Answered c t out number) same answered in
    ends_left (Permits (Some c) src) (limit_of c) (writes_live c) src out number
    (leaves_one_of_more (writes_live c) (Answers c input) (Permits (Some c) src) out number (λ status text is. inl (input, has, is)) left) still read

-- a command that has no input
pub ends_unread : (c : Command) (limit : ℕ) (src out : Passage) (number : ℕ) → limit_of c ≡ Some limit → EndsUnread limit src out number
    → Ends (Some c) src out number
ends_unread c limit src out number is unread =
    subst (λ (l : Option ℕ). EndsWith (Permits (Some c) src) l (writes_live c) src out number) (sym is)
    (ends_without_input (Permits (Some c) src) limit (writes_live c) src out number
    (λ much. inr (subst (λ (l : Option ℕ). GaveTooMuch l src) (sym is) much, refl, refl)) unread)
