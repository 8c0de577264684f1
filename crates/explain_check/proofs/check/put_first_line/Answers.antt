use Rattle.std.proofs.Common.{codes, option_map}
use Rattle.std.proofs.lemmas.Result.{on_ok_weaker}
use Rattle.source_map.specs.PlaceWords.{front_words}
use Rattle.explain_check.specs.CheckRefusals.{check_numbers}
use Rattle.explain_check.specs.MatterWords.{matter_words}
use Rattle.explain_check.proofs.Pieces.{line_of_four}
use Rattle.explain_check.proofs.check.put_first_line.Goals as goal

pub returns : goal.returns
returns c =
    on_ok_weaker c.put_numbers.result
    (line_of_four _ _ _ _ _ (front_words c.args.places.now (option_map (λ f. f.now) c.args.file) c.args.place) (codes ": ")
    (matter_words c.args.scene.now.task c.args.scene.now.matter) (check_numbers c.args.scene.now.fault) c.in_ok-put_front.ensures.written
    c.in_ok-extend_from_slice.ensures.items c.in_ok-put_matter.ensures)
    c.put_numbers.ensures
