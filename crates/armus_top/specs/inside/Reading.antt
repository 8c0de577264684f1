-- What is left where an input is read.
use Rattle.std.specs.Prelude.{◌≡◌, ◌≤◌, ◌+◌, ℕ, Some, length}
use Rattle.std.specs.Io.KnownBytes.{Keeps}
use Rattle.report.specs.declared.refusal.Refusal.TheVariants.{Length}
use Rattle.command_line.specs.declared.command.Command.{Command}
use Rattle.program_io.specs.Texts.{Text}
use Rattle.armus_top.specs.Commands.{limit_of}
use Rattle.program_io.specs.Passages.{GaveTooMuch, HasCountedFault, HasInput, IsSound, Passage, ReadNoMore}
use Rattle.armus_top.specs.inside.Writing.{TellsRefusal}

-- the input was read to its end, and is not too long
abbrev pub IsRead : ℕ → Passage → Text → Type 0
IsRead limit src input = HasInput (Some limit) src input × IsSound src

-- the same of a command's input, which is empty where it reads none
abbrev pub IsReadFor : Command → Passage → Text → Type 0
IsReadFor c src input = HasInput (limit_of c) src input × IsSound src × ReadNoMore (limit_of c) src

-- there is no input: it is too long, which was told or memory was wanting; the source failed; or memory was wanting
pub data EndsUnread (limit : ℕ) (src out : Passage) (number : ℕ) : Type 0 where
  too_long : GaveTooMuch (Some limit) src → IsSound src → TellsRefusal Length out number → EndsUnread limit src out number
  source_failed : number ≡ 4 → HasCountedFault src → ReadNoMore (Some limit) src → IsSound out → Keeps out.before out.after → EndsUnread limit src out number
  memory_wanting : number ≡ 6 → IsSound src → ReadNoMore (Some limit) src → IsSound out → Keeps out.before out.after → EndsUnread limit src out number
