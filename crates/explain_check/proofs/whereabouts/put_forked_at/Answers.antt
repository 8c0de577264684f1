use Rattle.std.proofs.Common.{codes}
use Rattle.std.proofs.lemmas.Result.{on_ok_weaker}
use Rattle.source_map.specs.PlaceWords.{place_words}
use Rattle.explain_check.specs.NameWords.{task_words}
use Rattle.explain_check.proofs.Pieces.{four_pieces}
use Rattle.explain_check.proofs.whereabouts.put_forked_at.Goals as goal

pub returns : goal.returns
returns c =
    on_ok_weaker c.put.result
    (four_pieces _ _ _ _ _ (codes "in ") (task_words c.args.task.now) (codes ", forked at ") (place_words c.args.places.now c.args.place)
    c.in_ok-extend_from_slice.ensures.items c.in_ok-put_task.ensures c.in_ok-extend_from_slice-2.ensures.items)
    c.put.ensures.written
