use Rattle.std.proofs.Common.{◌∙◌, ◌++◌, ap}
use Rattle.std.proofs.lemmas.Result.{on_ok_weaker}
use Rattle.explain_tasks.specs.Names.{named_task_words}
use Rattle.explain_steps.proofs.words.put_task.Goals as goal

pub returns : goal.returns
returns c =
    on_ok_weaker c.put_task_words.result (λ e. e ∙ ap (λ names. c.args.out.now.items ++ named_task_words names c.args.t.0) c.requires.known.names)
    c.put_task_words.ensures
