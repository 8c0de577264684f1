use Rattle.monitor_words.proofs.laws.numbers_ascend.Goals as goal
use Rattle.monitor_words.proofs.Ascending.{numbers_ascend}

pub returns : goal.returns
returns c = numbers_ascend
