use Rattle.report_laws.proofs.ToldTasks.{each_task_is_told}
use Rattle.report_laws.proofs.explanations.each_task_is_told.Goals as goal

pub returns : goal.returns
returns c = each_task_is_told
