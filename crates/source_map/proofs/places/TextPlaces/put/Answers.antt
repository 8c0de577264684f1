use Rattle.std.proofs.Common.{◌≡◌, ◌++◌, ◌∙◌, append_assoc, ap, sym, codes, decimal, string_bytes}
use Rattle.source_map.specs.PlaceWords.{place_words}
use Rattle.source_map.proofs.places.TextPlaces.put.Goals as goal

pub returns-in_ok-extend_from_slice-in-Here : goal.returns-in_ok-extend_from_slice-in-Here
returns-in_ok-extend_from_slice-in-Here c =
    let text : string_bytes c.in_ok-words-in-Here.words ≡ decimal c.in-Here.line ++ codes ":" ++ decimal c.in-Here.column = simp append_assoc c.in_ok-words-in-Here.ensures.ok in
    let place = ap (place_words c.args.self.now) c.in-Here.is in
    record {
      written = c.in_ok-extend_from_slice-in-Here.ensures.items ∙ ap (λ b. c.args.out.now.items ++ b) (c.as_bytes.ensures.value ∙ (text ∙ sym place));
    }
