use Rattle.monitor_words.proofs.laws.worked_messages.Goals as goal
use Rattle.monitor_words.proofs.Worked.{worked_circle, worked_crosswise, worked_ended, worked_lock, worked_refusal}

pub returns : goal.returns
returns c = record { circle = worked_circle; refusal = worked_refusal; lock = worked_lock; ended = worked_ended; crosswise = worked_crosswise }
