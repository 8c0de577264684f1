use Rattle.monitor_words.proofs.laws.one_reason.Goals as goal
use Rattle.monitor_words.proofs.OneMessage.{has_one_reason, has_some_reason}

pub returns : goal.returns
returns c = record { one = has_one_reason; some = has_some_reason }
