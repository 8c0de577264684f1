use Rattle.std.proofs.Common.{◌++◌, ◌∙◌, ap}
use Rattle.source_map.specs.Origins.{comes_to_op, statements_where}
use Rattle.source_map.specs.inside.Tables.{visits_by_fork}
use Rattle.source_map.proofs.TasksVisits.{visits_by_table}
use Rattle.source_map.proofs.lookup.Origins.ops.Goals as goal

pub returns : goal.returns
returns c =
    c.in_ok-push_of_task.ensures
    ∙ (ap (λ xs. xs ++ statements_where comes_to_op (visits_by_fork c.args.program.now c.fork.result)) c.new-ops.ensures.items
    ∙ ap (statements_where comes_to_op)
    (ap (visits_by_fork c.args.program.now) c.fork.ensures ∙ visits_by_table c.args.program.now c.args.self.now.forks c.args.t.0 c.requires.origins.forks))
