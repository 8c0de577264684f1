use Rattle.std.proofs.Common.{◌++◌, ◌∙◌, List, ap, codes}
use Rattle.armus_base.specs.declared.ids.TaskId.{TaskId}
use Rattle.explain_avoid.specs.RefusalWords.{going_on_words}
use Rattle.explain_avoid.proofs.Pieces.{three_pieces}
use Rattle.explain_avoid.proofs.refusal.put_freed.Goals as goal

pub returns : goal.returns
returns c =
    let tasks = c.in_ok-tasks.tasks.items in
    let p = c.args.facts.now.program.now in (
      tasks,
      c.in_ok-tasks.ensures,
      three_pieces c.args.out.now.items c.put_words.new.out.items c.put_going_on.new.out.items c.put_words-2.new.out.items (codes "  thereby ") (going_on_words p tasks)
          (codes "\n") c.in_ok-put_words.ensures
          (c.in_ok-put_going_on.ensures ∙ ap (λ (us : List TaskId). c.put_words.new.out.items ++ going_on_words p us) c.deref.ensures.value) c.in_ok-put_words-2.ensures,
    )
