use Rattle.armus_base.proofs.laws.agreement.done_stays_done.Goals as goal
use Rattle.armus_base.proofs.ComesAsFar.{avoided_comes_as_far, done_stays_done}
use Rattle.armus_base.proofs.NeverPassed.{dead_is_never_passed}

pub returns : goal.returns
returns c = record { never = dead_is_never_passed; places = avoided_comes_as_far; done = done_stays_done }
