-- Each call has an answer: words have a meaning, and each input of a command has a whole output.
use Rattle.std.specs.Prelude.{◌≤◌, ℕ, Option, Some, None, [], ◌≡◌, length}
use Rattle.command_line.specs.declared.command.Command.{Command}
use Rattle.command_line.specs.declared.command.Command.TheVariants.{Gen}
use Rattle.command_line.specs.declared.table.TheConstants.{MAX_GENERATED}
use Rattle.program_io.specs.Texts.{Text}
use Rattle.armus_top.specs.Commands.{limit_of}
use Rattle.armus_top.specs.Headline.{Answers}

-- the input is no longer than the command takes, or empty where it takes none
abbrev pub FitsLimit : Option ℕ → Text → Type 0
FitsLimit (Some limit) input = length input ≤ limit
FitsLimit None input = input ≡ []

-- a text is generated with no more workers than that
abbrev pub MayGenerate : Command → Type 0
MayGenerate (Gen count) = count ≤ MAX_GENERATED
MayGenerate _ = Unit {0}

-- so each input that fits has a whole output with its status, 0, 1 or 3
abbrev pub EachInputIsMet : Type 0
EachInputIsMet =
    (c : Command) (input : Text) → FitsLimit (limit_of c) input → MayGenerate c → (status : ℕ) × (text : Text) × Answers c input status text
