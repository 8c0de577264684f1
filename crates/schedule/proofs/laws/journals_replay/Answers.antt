use Rattle.schedule.proofs.JournalReplays.{journal_replays}
use Rattle.schedule.proofs.laws.journals_replay.Goals as goal

pub returns : goal.returns
returns c = journal_replays
