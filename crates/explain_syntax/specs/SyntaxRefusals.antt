-- The lines of a text that is refused for its first syntax fault.
use Rattle.std.specs.Prelude.{◌≡◌, ℕ, List, [], ◌++◌, drop, codes, decimal, Option, Some, None}
use Rattle.pl_syntax.specs.declared.fault.SyntaxFault.{SyntaxFault}
use Rattle.pl_syntax.specs.Printed.{line}
use Rattle.source_map.specs.TextPlaces.{text_place}
use Rattle.source_map.specs.PlaceWords.{place_words, front_words}
use Rattle.source_map.specs.declared.place.TextPlace.{TextPlace}
use Rattle.explain_syntax.specs.declared.stand.GrammarStand.{GrammarStand}
use Rattle.explain_syntax.specs.declared.wanted.WantedTokens.{WantedTokens}
use Rattle.explain_syntax.specs.CaretLines.{caret_lines}
use Rattle.explain_syntax.specs.Stands.{IsStand}
use Rattle.explain_syntax.specs.SyntaxSentences.{syntax_sentence}
use Rattle.explain_syntax.specs.Hints.{first_fit, hints}

-- the numbers of a fault, as `armus run` writes them
abbrev pub syntax_numbers : SyntaxFault → List ℕ
syntax_numbers fault = codes " (syntax " ++ decimal fault.kind ++ codes ", byte " ++ decimal fault.at ++ codes ")"

-- the first line: the place, what is wrong there, and the numbers; from the place on this is left of the text
abbrev pub front_line : List ℕ → Option (List ℕ) → TextPlace → SyntaxFault → List ℕ → WantedTokens → List ℕ
front_line text file place fault rest wanted =
    line (front_words text file place ++ codes ": " ++ syntax_sentence fault.kind rest wanted ++ syntax_numbers fault)

-- the same, where the grammar says this of the place
abbrev pub syntax_fault_line : Option (List ℕ) → List ℕ → SyntaxFault → GrammarStand → List ℕ
syntax_fault_line file text fault stand = front_line text file (text_place text fault.at) fault (drop fault.at text) stand.wanted

-- the note on the innermost open brace, where the text has ended
abbrev pub brace_note : List ℕ → List ℕ → Option ℕ → List ℕ
brace_note text [] (Some at) = line (codes "  the brace at " ++ place_words text (text_place text at) ++ codes " is not closed")
brace_note text rest brace = []

-- the line of a hint
abbrev pub hint_line : Option (List ℕ) → List ℕ
hint_line None = []
hint_line (Some words) = line (codes "  hint: " ++ words)

-- the notes: the brace, and the first hint that fits
abbrev pub syntax_notes : List ℕ → SyntaxFault → GrammarStand → List ℕ
syntax_notes text fault stand =
    brace_note text (drop fault.at text) stand.brace ++ hint_line (first_fit (hints fault.kind fault.at (drop fault.at text) stand))

-- all lines, where the grammar says this of the fault's place
abbrev pub syntax_lines : Option (List ℕ) → List ℕ → SyntaxFault → GrammarStand → List ℕ
syntax_lines file text fault stand =
    syntax_fault_line file text fault stand ++ caret_lines text fault.at ++ syntax_notes text fault stand

-- the lines of a text, of a file or not, that is refused for its first syntax fault
pub record IsSyntaxRefusal (file : Option (List ℕ)) (text : List ℕ) (fault : SyntaxFault) (lines : List ℕ) : Type 0 where
  pub stand : GrammarStand
  pub is_stand : IsStand text fault stand
  pub lines_are : lines ≡ syntax_lines file text fault stand
