use Rattle.monitor_words.proofs.laws.one_message.Goals as goal
use Rattle.monitor_words.proofs.OneMessage.{has_one_message}

pub returns : goal.returns
returns c = has_one_message
