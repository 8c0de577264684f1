use Rattle.std.proofs.Common.{◌++◌, codes}
use Rattle.std.proofs.lemmas.Result.{on_ok_weaker}
use Rattle.explain_check.specs.NameWords.{phaser_words, task_words}
use Rattle.explain_check.proofs.Pieces.{two_pieces}
use Rattle.explain_check.proofs.matter.put_ops_at_end.Goals as goal

pub returns : goal.returns
returns c =
    on_ok_weaker c.put_task_and_phaser.result
    (two_pieces _ _ _ (codes "1048576 ops are there already: at its end ")
    (task_words c.args.current.now ++ codes " cannot leave " ++ phaser_words c.args.phaser.now) c.in_ok-extend_from_slice.ensures.items)
    c.put_task_and_phaser.ensures
