use Rattle.armus_top.proofs.RecordsReplay.{records_replay}
use Rattle.armus_top.proofs.laws.records_replay.Goals as goal

pub returns : goal.returns
returns c = records_replay
