use Rattle.std.proofs.Common.{◌∙◌, ◌++◌, ap}
use Rattle.std.proofs.lemmas.Result.{on_ok_weaker}
use Rattle.explain_tasks.specs.TaskLists.{tasks_words}
use Rattle.explain_avoid.proofs.refusal.put_tasks.Goals as goal

pub returns : goal.returns
returns c =
    on_ok_weaker c.put_tasks_words.result (λ e. e ∙ ap (λ names. c.args.out.now.items ++ tasks_words names c.args.tasks.now) c.requires.known.names)
    c.put_tasks_words.ensures
