-- The lines of a clock text that is refused: where it is at fault, what is wrong there, and the line with a caret.
use Rattle.std.specs.Prelude.{ℕ, ◌==◌, if◌then◌else◌, List, [], ◌∷◌, ◌++◌, Option, codes, decimal, drop, length, min}
use Rattle.pl_plan.specs.declared.fault.CheckFault.{CheckFault}
use Rattle.pl_syntax.specs.declared.fault.SyntaxFault.{SyntaxFault}
use Rattle.pl_syntax.specs.Printed.{line}
use Rattle.pl_syntax.specs.Tokens.{kind_cannot_stand, kind_no_number, kind_no_token, kind_too_deep}
use Rattle.source_map.specs.TextPlaces.{text_place}
use Rattle.source_map.specs.PlaceWords.{front_words}
use Rattle.explain_syntax.specs.CaretLines.{caret_lines}
use Rattle.explain_syntax.specs.QuotedWords.{spelled}
use Rattle.explain_syntax.specs.SyntaxRefusals.{hint_line, syntax_numbers}
use Rattle.explain_syntax.specs.SyntaxSentences.{found_words}
use Rattle.clock_semantics.specs.Unfolding.{listed_twice, not_registered, still_pending, too_many_activities, too_many_clock_cells, too_many_clock_ops, too_many_clocks, unknown_clock}
use Rattle.explain_clock.specs.ClockHints.{clock_hint}
use Rattle.explain_clock.specs.ClockStands.{stand_in_front}
use Rattle.explain_clock.specs.ClockWords.{offset_of}
use Rattle.explain_clock.specs.declared.stand.ClockStand.{ClockStand}
use Rattle.explain_clock.specs.declared.stand.ClockStand.TheVariants.{AsyncOpen, Body, CallEnd, CallName, CallOpen, ClockName, FirstName, ListEnd, ListName, Semicolon, Statement, Turns}

-- what is wanted, where one or two tokens alone can stand
abbrev pub wanted_tokens : ClockStand → List ℕ
wanted_tokens Statement = []
wanted_tokens ClockName = codes "a name"
wanted_tokens AsyncOpen = codes "'('"
wanted_tokens FirstName = codes "a name or ')'"
wanted_tokens ListEnd = codes "',' or ')'"
wanted_tokens ListName = codes "a name"
wanted_tokens CallOpen = codes "'('"
wanted_tokens CallName = codes "a name"
wanted_tokens CallEnd = codes "')'"
wanted_tokens Turns = codes "a number"
wanted_tokens Body = codes "'{'"
wanted_tokens Semicolon = codes "';'"

-- a token that cannot stand where this is wanted; from the token on this is left of the text
abbrev pub cannot_stand_words : List ℕ → List ℕ → List ℕ
cannot_stand_words [] rest = codes "this token cannot stand here"
cannot_stand_words (w ∷ ws) rest = (w ∷ ws) ++ codes " is wanted here, not " ++ found_words rest

-- what is wrong, by the kind of a syntax fault
abbrev pub syntax_words : ℕ → ClockStand → List ℕ → List ℕ
syntax_words kind s rest =
    if kind == kind_no_token then codes "no token begins here"
    else (if kind == kind_cannot_stand then cannot_stand_words (wanted_tokens s) rest
    else (if kind == kind_no_number then codes "this is no number: a number is 0 to 65535, without leading zeros"
    else (if kind == kind_too_deep then codes "this brace is the 65th that is open: at most 64 may be"
    else codes "this name has more than 32 bytes")))

-- what is wrong, by the kind of a clock fault
abbrev pub fault_words : ℕ → List ℕ
fault_words kind =
    if kind == unknown_clock then codes "a name here stands for no clock"
    else (if kind == not_registered then codes "the activity is not registered on a clock that is named here"
    else (if kind == listed_twice then codes "a name stands twice in this list"
    else (if kind == still_pending then codes "a clock that is named here is pending: the activity has signalled on it, and not advanced since"
    else (if kind == too_many_activities then codes "4096 activities are there already: no more may be"
    else (if kind == too_many_clocks then codes "1024 clocks and finishes are there already: no more may be"
    else (if kind == too_many_clock_cells then codes "the activities times one more than the clocks and finishes may be at most 1048576"
    else (if kind == too_many_clock_ops then codes "1048576 ops are there already: no more may be"
    else codes "4194304 visits were made already: no more may be")))))))

-- the line of what is wrong at a byte, and the line of the text with a caret; where the text has no such byte, of its end
abbrev pub fault_lines : Option (List ℕ) → List ℕ → ℕ → List ℕ → List ℕ
fault_lines file text at words = line (front_words text file (text_place text at) ++ codes ": " ++ words) ++ caret_lines text (min at (length text))

-- what is left of a text from a byte on
abbrev pub rest_at : List ℕ → ℕ → List ℕ
rest_at text at = drop (min at (length text)) text

-- the lines of a text, of the file with this name or of none, for its first syntax fault: with a hint below, where one fits
abbrev pub clock_syntax_lines : Option (List ℕ) → List ℕ → SyntaxFault → List ℕ
clock_syntax_lines file text fault =
    fault_lines file text fault.at (syntax_words fault.kind (stand_in_front text fault.at) (rest_at text fault.at) ++ syntax_numbers fault)
    ++ hint_line (clock_hint fault.kind (stand_in_front text fault.at) (spelled (rest_at text fault.at)))

-- the kind of a clock fault and its statement, by their numbers:  (clock 1, statement 2)
abbrev pub clock_numbers : CheckFault → List ℕ
clock_numbers fault = codes " (clock " ++ decimal fault.kind ++ codes ", statement " ++ decimal fault.statement ++ codes ")"

-- the lines of a text whose statements have these offsets, for the first fault of its unfolding
abbrev pub clock_fault_lines : Option (List ℕ) → List ℕ → List ℕ → CheckFault → List ℕ
clock_fault_lines file text offsets fault =
    fault_lines file text (offset_of text offsets fault.statement) (fault_words fault.kind ++ clock_numbers fault)
