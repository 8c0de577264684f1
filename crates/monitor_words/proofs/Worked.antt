-- Worked messages.
use Rattle.std.proofs.Common.{refl}
use Rattle.std.specs.Fmt.{digits}
use Rattle.monitor_words.specs.Worked.{WorkedCircle, WorkedCrosswise, WorkedEnded, WorkedLock, WorkedRefusal}

pub worked_circle : WorkedCircle
unfolding digits
worked_circle = (refl, refl, refl)

pub worked_refusal : WorkedRefusal
unfolding digits
worked_refusal = (refl, refl)

pub worked_lock : WorkedLock
unfolding digits
worked_lock = (refl, refl)

pub worked_ended : WorkedEnded
unfolding digits
worked_ended = (refl, refl, refl)

pub worked_crosswise : WorkedCrosswise
unfolding digits
worked_crosswise = refl
