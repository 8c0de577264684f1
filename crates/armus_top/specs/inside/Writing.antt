-- What is left where an output is written.
use Rattle.std.specs.Prelude.{◌≡◌, ◌⊎◌, ℕ, Bool, true}
use Rattle.std.specs.Io.KnownBytes.{Keeps}
use Rattle.armus_base.specs.ReadAll.{TookFront}
use Rattle.clock_pl.specs.ClockLines.{clock_fault_line}
use Rattle.clock_pl.specs.declared.fault.ClockFault.{ClockFault}
use Rattle.report.specs.Refusals.{refusal_text}
use Rattle.report.specs.declared.refusal.Refusal.{Refusal}
use Rattle.command_line.specs.declared.command.Command.{Command}
use Rattle.program_io.specs.Texts.{Text}
use Rattle.program_io.specs.calls.Writing.{Finished}
use Rattle.armus_top.specs.Commands.{writes_live}
use Rattle.program_io.specs.Passages.{Passage, HasCountedFault, IsSound, Took}
use Rattle.armus_top.specs.Headline.{Answers}

-- memory was wanting, and nothing was written
abbrev pub LeavesNothing : Passage → ℕ → Type 0
LeavesNothing out number = (number ≡ 6) × IsSound out × Keeps out.before out.after

-- the line of a refusal was written, or memory was wanting and nothing was
abbrev pub TellsRefusal : Refusal → Passage → ℕ → Type 0
TellsRefusal why out number = Finished out (refusal_text why) 3 number ⊎ LeavesNothing out number

-- the line of a fault of the unfolding of a clock text was written, or memory was wanting and nothing was
abbrev pub RefusesClocks : ClockFault → Passage → ℕ → Type 0
RefusesClocks fault out number = Finished out (clock_fault_line fault.kind fault.statement) 3 number ⊎ LeavesNothing out number

-- What is left where one of these outputs was to be written: it was; or memory was wanting, and nothing was written, or, where lines are written while it
-- runs, some first bytes of one.
pub data LeavesOutput (lines : Bool) (IsOutput : ℕ → Text → Type 0) (out : Passage) (number : ℕ) : Type 0 where
  wrote : (status : ℕ) (text : Text) → IsOutput status text → Finished out text status number → LeavesOutput lines IsOutput out number
  nothing : number ≡ 6 → IsSound out → Keeps out.before out.after → LeavesOutput lines IsOutput out number
  part : lines ≡ true → (status : ℕ) (text : Text) → IsOutput status text → number ≡ 6 → IsSound out → TookFront out.before out.after text
      → LeavesOutput lines IsOutput out number

-- what a command leaves that works on this input: one of its outputs
abbrev pub Answered : Command → Text → Passage → ℕ → Type 0
Answered c input out number = LeavesOutput (writes_live c) (Answers c input) out number
