use Rattle.armus_base.proofs.laws.texts.worked_avoided_run.Goals as goal
use Rattle.armus_base.proofs.TwoTasksAvoided.{serial_end}
use Rattle.armus_base.proofs.TwoTasksChecked.{two_tasks_checked}
use Rattle.armus_base.proofs.WorkedTexts.{two_tasks_avoided_value}

pub returns : goal.returns
returns c = record { plan = two_tasks_checked; run = serial_end; value = two_tasks_avoided_value }
