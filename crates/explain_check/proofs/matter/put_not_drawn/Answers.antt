use Rattle.std.proofs.Common.{codes}
use Rattle.std.proofs.lemmas.Result.{on_ok_weaker}
use Rattle.explain_check.specs.NameWords.{task_words}
use Rattle.explain_check.proofs.Pieces.{three_pieces}
use Rattle.explain_check.proofs.matter.put_not_drawn.Goals as goal

pub returns : goal.returns
returns c =
    on_ok_weaker c.put_task-2.result
    (three_pieces _ _ _ _ (task_words c.args.current.now) (codes " did not draw ") (task_words c.args.task.now) c.in_ok-put_task.ensures
    c.in_ok-extend_from_slice.ensures.items)
    c.put_task-2.ensures
