use Rattle.explain_avoid.proofs.StaysTold.{first_has}
use Rattle.explain_avoid.proofs.explaining.has_task.Goals as goal

pub returns-in-len1-up : goal.returns-in-len1-up
returns-in-len1-up c = first_has c.args.a.now c.args.b.now c.in-len1-up.len_at_least
