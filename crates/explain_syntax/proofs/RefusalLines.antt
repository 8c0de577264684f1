-- The lines of a refusal are those that were put together.
use Rattle.std.proofs.Common.{◌≡◌, ℕ, List, [], ◌++◌, drop, ap, ◌∙◌}
use Rattle.std.specs.Prelude.{Option}
use Rattle.pl_syntax.specs.declared.fault.SyntaxFault.{SyntaxFault}
use Rattle.source_map.specs.TextPlaces.{text_place}
use Rattle.source_map.specs.declared.place.TextPlace.{TextPlace}
use Rattle.explain_syntax.specs.declared.stand.GrammarStand.{GrammarStand}
use Rattle.explain_syntax.specs.CaretLines.{caret_lines}
use Rattle.explain_syntax.specs.Hints.{first_fit, hints}
use Rattle.explain_syntax.specs.SyntaxRefusals.{brace_note, front_line, hint_line, syntax_fault_line, syntax_lines, syntax_notes}
use Rattle.explain_syntax.proofs.Pieces.{three_from_none}

-- the notes, where this is left of the text
abbrev notes_of : List ℕ → SyntaxFault → List ℕ → GrammarStand → List ℕ
notes_of text f rest s = brace_note text rest s.brace ++ hint_line (first_fit (hints f.kind f.at rest s))

pub lines_are : (file : Option (List ℕ)) (text : List ℕ) (f : SyntaxFault) (s : GrammarStand) (placed : List ℕ) (place : TextPlace) (rest o o1 o2 o3 : List ℕ) →
    placed ≡ text → place ≡ text_place placed f.at → rest ≡ drop f.at text → o ≡ [] → o1 ≡ o ++ front_line placed file place f rest s.wanted →
    o2 ≡ o1 ++ caret_lines text f.at → o3 ≡ o2 ++ (brace_note placed rest s.brace ++ hint_line (first_fit (hints f.kind f.at rest s))) →
    o3 ≡ syntax_lines file text f s
lines_are file text f s placed place rest o o1 o2 o3 e p r none a b c =
    let first : front_line placed file place f rest s.wanted ≡ syntax_fault_line file text f s =
    ap (λ x. front_line x file place f rest s.wanted) e ∙ (ap (λ x. front_line text file x f rest s.wanted) (p ∙ ap (λ x. text_place x f.at) e)
    ∙ ap (λ x. front_line text file (text_place text f.at) f x s.wanted) r) in
    let notes : notes_of placed f rest s ≡ syntax_notes text f s = ap (λ x. notes_of x f rest s) e ∙ ap (λ x. notes_of text f x s) r in
    three_from_none o o1 o2 o3 (syntax_fault_line file text f s) (caret_lines text f.at) (syntax_notes text f s) none (a ∙ ap (λ x. o ++ x) first) b (c ∙ ap (λ x. o2 ++ x) notes)
