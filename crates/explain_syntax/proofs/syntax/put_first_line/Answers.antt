use Rattle.std.proofs.Common.{codes, option_map}
use Rattle.std.proofs.lemmas.Result.{on_ok_weaker}
use Rattle.source_map.specs.PlaceWords.{front_words}
use Rattle.explain_syntax.specs.SyntaxRefusals.{syntax_numbers}
use Rattle.explain_syntax.specs.SyntaxSentences.{syntax_sentence}
use Rattle.explain_syntax.proofs.Pieces.{line_of_four}
use Rattle.explain_syntax.proofs.syntax.put_first_line.Goals as goal

pub returns : goal.returns
returns c =
    on_ok_weaker c.put_numbers.result
    (line_of_four _ _ _ _ _ (front_words c.args.places.now (option_map (λ f. f.now) c.args.file) c.args.place) (codes ": ")
    (syntax_sentence c.args.fault.kind c.args.rest.now c.args.wanted) (syntax_numbers c.args.fault) c.in_ok-put_front.ensures.written
    c.in_ok-extend_from_slice.ensures.items c.in_ok-put_sentence.ensures)
    c.put_numbers.ensures
