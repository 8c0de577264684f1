use Rattle.dep_state.proofs.TaskSearch.{at_lower_bound}
use Rattle.dep_state.proofs.search.task_place.Goals as goal

pub returns-else-is_at-2 : goal.returns-else-is_at-2
returns-else-is_at-2 c there = c.if-is_at-2.ensures (at_lower_bound c.args.tasks.now c.args.t c.first_from-at.result c.requires c.first_from-at.ensures there)
