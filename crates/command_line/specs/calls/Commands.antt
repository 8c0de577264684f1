-- The command that words mean.
use Rattle.std.specs.Prelude.{◌≡◌, List, Option}
use Rattle.program_io.specs.Texts.{Text}
use Rattle.command_line.specs.declared.command.Command.{Command}
use Rattle.command_line.specs.Commands.{Means}

-- the law: words mean one command at most
abbrev pub OneMeaning : Type 0
OneMeaning = (words : List Text) (c d : Option Command) → Means words c → Means words d → c ≡ d

-- the law: words have a meaning
abbrev pub EachMeaning : Type 0
EachMeaning = (words : List Text) → (c : Option Command) × Means words c
