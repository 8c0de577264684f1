use Rattle.explain_tasks.proofs.TaskListsSay.{items_are_no_pairs, items_name_the_tasks, runs_are_apart}
use Rattle.explain_tasks.proofs.laws.lists_name_their_tasks.Goals as goal

pub returns : goal.returns
returns c = record { names = items_name_the_tasks; apart = runs_are_apart; items = items_are_no_pairs }
