use Rattle.schedule.proofs.OneReplay.{never_both, one_first_fault, one_progress}
use Rattle.schedule.proofs.laws.one_replay.Goals as goal

pub returns : goal.returns
returns c = record { progress = one_progress; never_both = never_both; fault = one_first_fault }
