use Rattle.monitor_words.proofs.laws.one_circle.Goals as goal
use Rattle.monitor_words.proofs.Circles.{has_one_circle, has_some_circle}

pub returns : goal.returns
returns c = record { one = has_one_circle; some = has_some_circle }
