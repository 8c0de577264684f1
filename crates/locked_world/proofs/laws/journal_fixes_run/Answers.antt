use Rattle.locked_world.proofs.Journals.{journal_fixes_run}
use Rattle.locked_world.proofs.Logging.{replayed_state}
use Rattle.locked_world.proofs.laws.journal_fixes_run.Goals as goal

pub returns : goal.returns
returns c = record { run = journal_fixes_run; state = replayed_state }
