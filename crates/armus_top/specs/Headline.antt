-- What a call of the program leaves. The headline is `Serves`: what the words mean, and how the call may end.
-- After it stands completeness: where nothing failed and memory sufficed, the words and the input fix whether the status is 2, 3, or one of 0 and 1.
use Rattle.std.specs.Prelude.{◌≡◌, ◌≢◌, ◌≤◌, ◌<◌, ◌⊎◌, ℕ, ◌+◌, Bool, true, false, List, [], length, Option, Some, None, IsSome, is_some}
use Rattle.program_io.specs.Texts.{Text}
use Rattle.command_line.specs.Words.{HaveForm}
use Rattle.program_io.specs.Passages.{EndsWith, GaveTooMuch, HasInput, IsCalm, Offers, OffersTooMuch, Passage}
use Rattle.armus_top.specs.Texts.{usage_line}
use Rattle.command_line.specs.Commands.{Means}
use Rattle.armus_top.specs.Commands.{limit_of, length_line, writes_live, IsRefusedInput, IsAnswered}
use Rattle.command_line.specs.declared.command.Command.{Command}

-- a whole output for this input: 0 or 1 with an answer, or 3 with the line of a refusal
abbrev pub Answers : Command → Text → ℕ → Text → Type 0
Answers c input status text = IsAnswered c input status text ⊎ ((status ≡ 3) × IsRefusedInput c input text)

-- the whole outputs that the meaning of the words and the source permit, with their status
abbrev pub Permits : Option Command → Passage → ℕ → Text → Type 0
Permits None src status text = (status ≡ 2) × (text ≡ usage_line)
Permits (Some c) src status text = ((input : Text) × HasInput (limit_of c) src input × Answers c input status text)
    ⊎ (GaveTooMuch (limit_of c) src × (status ≡ 3) × (text ≡ length_line c))

-- the most bytes of the input, where the words mean a command that reads one
abbrev pub limit_for : Option Command → Option ℕ
limit_for None = None
limit_for (Some c) = limit_of c

-- the words mean a command that reads its input
abbrev pub reads_input : Option Command → Bool
reads_input c = is_some (limit_for c)

-- the words mean a command that writes lines while it runs
abbrev pub writes_lines : Option Command → Bool
writes_lines None = false
writes_lines (Some c) = writes_live c

-- how a call may end whose words mean this, and with which number
abbrev pub Ends : Option Command → Passage → Passage → ℕ → Type 0
Ends c src out number = EndsWith (Permits c src) (limit_for c) (writes_lines c) src out number

-- the headline: the call ends as the command may that the words mean, or as where they mean none
abbrev pub Serves : List Text → Passage → Passage → ℕ → Type 0
Serves words src out number = (meaning : Option Command) → Means words meaning → Ends meaning src out number

-- The headline, and what the two objects are left as: a source that is not read stays the value that it was, and so does the sink after a fault of the source,
-- and where memory is wanting, but for a command that writes lines while it runs. Memory is wanting only where the words have the form of a command.
pub record IsCall (words : List Text) (src out : Passage) (same_source same_sink : Type 0) (number : ℕ) : Type 0 where
  pub serves : Serves words src out number
  pub unread : (c : Option Command) → Means words c → reads_input c ≡ false → same_source
  pub silent : number ≡ 4 → same_sink
  pub unwritten : (c : Option Command) → Means words c → writes_lines c ≡ false → number ≡ 6 → same_sink
  pub formed : number ≡ 6 → HaveForm words

-- no case of a refusal holds of the input
abbrev pub IsAccepted : Command → Text → Type 0
IsAccepted c input = (text : Text) → IsRefusedInput c input text → ⊥

-- completeness: 2 for no command, 0 or 1 for an accepted input, and 3 for a refused or a too long one
pub record Completes (c : Option Command) (src : Passage) (number : ℕ) : Type 0 where
  pub usage : c ≡ None → number ≡ 2
  pub accepted : (command : Command) (input : Text) → c ≡ Some command → Offers (limit_of command) src input → IsAccepted command input → number ≤ 1
  pub refused : (command : Command) (input text : Text) → c ≡ Some command → Offers (limit_of command) src input → IsRefusedInput command input text → number ≡ 3
  pub long : (command : Command) → c ≡ Some command → OffersTooMuch (limit_of command) src → number ≡ 3

-- all that is said of a call: what it leaves, and completeness
pub record IsServed (words : List Text) (src out : Passage) (same_source same_sink : Type 0) (number : ℕ) : Type 0 where
  pub call : IsCall words src out same_source same_sink number
  pub complete : (c : Option Command) → Means words c → IsCalm src out number → Completes c src number
