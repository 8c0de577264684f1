-- The lines of a refusal are those that were put together.
use Rattle.std.proofs.Common.{◌≡◌, ℕ, ◌≤◌, List, [], ◌++◌, length, ap, ◌∙◌, arith}
use Rattle.std.specs.Prelude.{Option, min}
use Rattle.source_map.specs.declared.place.TextPlace.{TextPlace}
use Rattle.explain_syntax.specs.CaretLines.{caret_lines}
use Rattle.explain_check.specs.declared.scene.Scene.{Scene}
use Rattle.explain_check.specs.CheckRefusals.{check_fault_line, check_lines}
use Rattle.explain_check.specs.MatterNotes.{matter_note}
use Rattle.explain_check.specs.StatementPlaces.{statement_offset, place_of_statement}
use Rattle.explain_check.specs.Whereabouts.{whereabouts}
use Rattle.explain_check.proofs.Pieces.{four_from_none}

module _ (file : Option (List ℕ)) (text offsets : List ℕ) (s : Scene) (placed : List ℕ) (end : ℕ) (same : placed ≡ text) (ends : end ≡ length text) where
  abbrev n : ℕ
  n = s.fault.statement

  where_is : whereabouts placed offsets end s.task s.forked s.turns ≡ whereabouts text offsets (length text) s.task s.forked s.turns
  where_is = ap (λ x. whereabouts x offsets end s.task s.forked s.turns) same ∙ ap (λ x. whereabouts text offsets x s.task s.forked s.turns) ends

  note_is : matter_note placed offsets end s.forked s.matter ≡ matter_note text offsets (length text) s.forked s.matter
  note_is = ap (λ x. matter_note x offsets end s.forked s.matter) same ∙ ap (λ x. matter_note text offsets x s.forked s.matter) ends

  line_is : (place : TextPlace) → place ≡ place_of_statement placed offsets end n →
      check_fault_line placed file place s ≡ check_fault_line text file (place_of_statement text offsets (length text) n) s
  line_is place e =
      ap (λ x. check_fault_line x file place s) same
      ∙ ap (λ x. check_fault_line text file x s) (e ∙ (ap (λ x. place_of_statement x offsets end n) same ∙ ap (λ x. place_of_statement text offsets x n) ends))

  caret_is : (at : ℕ) → at ≡ statement_offset offsets end n → statement_offset offsets (length text) n ≤ length text →
      caret_lines text (min at (length text)) ≡ caret_lines text (statement_offset offsets (length text) n)
  caret_is at e fits =
      let same_at : at ≡ statement_offset offsets (length text) n = e ∙ ap (λ x. statement_offset offsets x n) ends in
      let least : min at (length text) ≡ at = omega arith in
      ap (caret_lines text) (least ∙ same_at)

  pub lines_are : (place : TextPlace) (at : ℕ) (o o1 o2 o3 o4 : List ℕ) → place ≡ place_of_statement placed offsets end n → at ≡ statement_offset offsets end n →
      statement_offset offsets (length text) n ≤ length text → o ≡ [] → o1 ≡ o ++ check_fault_line placed file place s → o2 ≡ o1 ++ caret_lines text (min at (length text)) →
      o3 ≡ o2 ++ whereabouts placed offsets end s.task s.forked s.turns → o4 ≡ o3 ++ matter_note placed offsets end s.forked s.matter →
      o4 ≡ check_lines file text offsets s
  lines_are place at o o1 o2 o3 o4 p e fits none a b c d =
      four_from_none o o1 o2 o3 o4 _ _ _ _ none (a ∙ ap (λ x. o ++ x) (line_is place p)) (b ∙ ap (λ x. o1 ++ x) (caret_is at e fits)) (c ∙ ap (λ x. o2 ++ x) where_is)
      (d ∙ ap (λ x. o3 ++ x) note_is)
