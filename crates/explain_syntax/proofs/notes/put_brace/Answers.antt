use Rattle.std.proofs.Common.{codes}
use Rattle.source_map.specs.PlaceWords.{place_words}
use Rattle.explain_syntax.proofs.Pieces.{line_of_three}
use Rattle.explain_syntax.proofs.notes.put_brace.Goals as goal

pub returns : goal.returns
returns c =
    line_of_three _ _ _ _ (codes "  the brace at ") (place_words c.args.places.now c.args.place) (codes " is not closed") c.in_ok-extend_from_slice.ensures.items
    c.in_ok-put.ensures.written c.in_ok-extend_from_slice-2.ensures.items
