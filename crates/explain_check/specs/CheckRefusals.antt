-- The lines of a text that is refused for its first check fault.
use Rattle.std.specs.Prelude.{◌≡◌, ℕ, List, ◌++◌, length, codes, decimal, Option}
use Rattle.pl_syntax.specs.declared.tree.Program.{Program}
use Rattle.pl_syntax.specs.Grammar.{IsText}
use Rattle.pl_syntax.specs.Printed.{line}
use Rattle.pl_syntax.specs.StatementOffsets.{AreOffsets}
use Rattle.pl_plan.specs.declared.fault.CheckFault.{CheckFault}
use Rattle.source_map.specs.PlaceWords.{front_words}
use Rattle.source_map.specs.declared.place.TextPlace.{TextPlace}
use Rattle.explain_syntax.specs.CaretLines.{caret_lines}
use Rattle.explain_check.specs.declared.scene.Scene.{Scene}
use Rattle.explain_check.specs.Scenes.{IsScene}
use Rattle.explain_check.specs.MatterNotes.{matter_note}
use Rattle.explain_check.specs.MatterWords.{matter_words}
use Rattle.explain_check.specs.StatementPlaces.{statement_offset, place_of_statement}
use Rattle.explain_check.specs.Whereabouts.{whereabouts}

-- the numbers of a fault, as `armus run` writes them
abbrev pub check_numbers : CheckFault → List ℕ
check_numbers fault = codes " (check " ++ decimal fault.kind ++ codes ", statement " ++ decimal fault.statement ++ codes ")"

-- the first line: a place, what is wrong there, and the numbers
abbrev pub check_fault_line : List ℕ → Option (List ℕ) → TextPlace → Scene → List ℕ
check_fault_line text file place scene =
    line (front_words text file place ++ codes ": " ++ matter_words scene.task scene.matter ++ check_numbers scene.fault)

-- all lines, by the offsets of the statements
abbrev pub check_lines : Option (List ℕ) → List ℕ → List ℕ → Scene → List ℕ
check_lines file text offsets scene =
    check_fault_line text file (place_of_statement text offsets (length text) scene.fault.statement) scene
    ++ caret_lines text (statement_offset offsets (length text) scene.fault.statement)
    ++ whereabouts text offsets (length text) scene.task scene.forked scene.turns
    ++ matter_note text offsets (length text) scene.forked scene.matter

-- the lines of a text, of a file or not, that has this program and is refused for its first check fault
pub record IsCheckRefusal (file : Option (List ℕ)) (text : List ℕ) (program : Program) (lines : List ℕ) : Type 0 where
  pub reads : IsText text program
  pub scene : Scene
  pub is_scene : IsScene program scene
  pub offsets : List ℕ
  pub are_offsets : AreOffsets text program offsets
  pub lines_are : lines ≡ check_lines file text offsets scene
