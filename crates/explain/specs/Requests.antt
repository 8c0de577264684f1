-- What the words behind the program's name ask for, and the lines that do not come of a text.
use Rattle.std.specs.Prelude.{Bool, false, not, ◌==◌, if◌then◌else◌, List, [], ◌∷◌, ◌++◌, codes, Option, Some, None}
use Rattle.std.specs.Str.{bytes_eq}
use Rattle.pl_syntax.specs.Printed.{line}
use Rattle.program_io.specs.Texts.{Text}
use Rattle.program_io.specs.Legible.{told_name}
use Rattle.explain.specs.declared.extent.Extent.{Extent}
use Rattle.explain.specs.declared.extent.Extent.TheVariants.{Whole, Usual, Short}

-- in which form a text is told of: the name of its file, if it comes from one, and how much of its explanation is shown
pub record Form : Type 0 where
  pub file : Option Text
  pub extent : Extent

-- what may be asked for: to explain a text, in this form; to show the steps of its run before; to explain its run that avoids deadlock; to explain a clock text;
-- the lines of help; the line of the version; or nothing
pub data Asked : Type 0 where
  explanation : Form → Asked
  steps : Form → Asked
  avoided : Form → Asked
  clocks : Form → Asked
  help : Asked
  version : Asked
  nothing : Asked

-- the word can name a file: it is not empty and does not begin with a hyphen
abbrev pub names_file : Text → Bool
names_file [] = false
names_file (first ∷ more) = not (first == 45)

-- the form of a text of this file, or of standard input
abbrev pub form_of : Extent → Option Text → Form
form_of extent file = record { file = file; extent = extent }

-- what a word asks for that stands where the file is named of which this is wanted
abbrev pub file_asked : Extent → (Form → Asked) → Text → Asked
file_asked extent wanted word = if names_file word then wanted (form_of extent (Some (told_name word))) else nothing

-- what one word asks for
abbrev pub word_asked : Extent → Text → Asked
word_asked extent word =
    if bytes_eq word (codes "run") then explanation (form_of extent None)
    else (if bytes_eq word (codes "steps") then steps (form_of extent None)
    else (if bytes_eq word (codes "avoid") then avoided (form_of extent None)
    else (if bytes_eq word (codes "clock") then clocks (form_of extent None)
    else (if bytes_eq word (codes "--help") then help
    else (if bytes_eq word (codes "--version") then version else file_asked extent explanation word)))))

-- what the words ask for, behind --all or --short, or without them
abbrev pub asked_so : Extent → List Text → Asked
asked_so extent [] = explanation (form_of extent None)
asked_so extent (word ∷ []) = word_asked extent word
asked_so extent (word ∷ file ∷ []) =
    if bytes_eq word (codes "run") then file_asked extent explanation file else (if bytes_eq word (codes "steps") then file_asked extent steps file
    else (if bytes_eq word (codes "avoid") then file_asked extent avoided file
    else (if bytes_eq word (codes "clock") then file_asked extent clocks file else nothing)))
asked_so extent words = nothing

-- what the words ask for
abbrev pub asked : List Text → Asked
asked [] = asked_so Usual []
asked (word ∷ words) =
    if bytes_eq word (codes "--all") then asked_so Whole words
    else (if bytes_eq word (codes "--short") then asked_so Short words else asked_so Usual (word ∷ words))

-- the line of usage
abbrev pub explain_usage_line : Text
explain_usage_line = line (codes "usage: armus_explain [--all|--short] [run|steps|avoid|clock] [FILE]")

-- the lines of help
abbrev pub help_lines : Text
help_lines =
    explain_usage_line
    ++ line (codes "Reads a text from FILE, or from standard input where there is none, and tells which")
    ++ line (codes "of its tasks wait for ever, where, for whom, and why. A text that begins with a word")
    ++ line (codes "of clocks, or whose FILE ends with .clock, is one of clocks: it tells the same of its")
    ++ line (codes "activities. Every other text is one of PL.")
    ++ line (codes "With steps it first shows the run in which the task with the least number that may")
    ++ line (codes "go on makes the next step: a line for each step, and at most 10000 of them.")
    ++ line (codes "With avoid it tells which tasks of a PL text are refused, where, in the run of one")
    ++ line (codes "worker that avoids deadlock, and which deadlock each of them would have closed.")
    ++ line (codes "With clock it reads any text as one of clocks.")
    ++ line (codes "Of an explanation at most 60 lines are shown, and at most 499 bytes of each line;")
    ++ line (codes "with --all in front all of it is, and with --short its first lines and its hint.")
    ++ line (codes "A text that is refused gets the place of its first fault and what is wrong there.")
    ++ line (codes "Status: 0 nobody waits for ever, 1 somebody does or is refused, 2 other words,")
    ++ line (codes "3 the text is refused, 4 it cannot be read, 5 it cannot be written, 6 no memory.")

-- the line of the version
abbrev pub version_line : Text
version_line = line (codes "armus_explain 2.0.0")
