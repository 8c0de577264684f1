-- Each call has an answer: words have a meaning, and each input of a command has a whole output.
use Rattle.std.specs.Prelude.{◌⊎◌, ℕ, List, Option, Some, None, []}
use Rattle.command_line.specs.declared.command.Command.{Command}
use Rattle.program_io.specs.Texts.{Text}
use Rattle.armus_top.specs.Commands.{limit_of}
use Rattle.program_io.specs.Passages.{GaveTooMuch, HasInput, Passage}
use Rattle.armus_top.specs.Headline.{Permits}
use Rattle.command_line.specs.Commands.{Means}

-- the source has given all that the command reads: its whole input, or more than it takes
abbrev pub HasGiven : Option Command → Passage → Type 0
HasGiven None src = Unit {0}
HasGiven (Some c) src = ((input : Text) × HasInput (limit_of c) src input) ⊎ GaveTooMuch (limit_of c) src

-- words mean a command or none, and then some whole output with its status is permitted, whatever the source has given
abbrev pub EachCallIsMet : Type 0
EachCallIsMet =
    (words : List Text) → (meaning : Option Command) × Means words meaning
    × ((src : Passage) → HasGiven meaning src → (status : ℕ) × (text : Text) × Permits meaning src status text)
