use Rattle.std.proofs.Common.{refl}
use Rattle.locked_world.specs.Journals.{journal_of}
use Rattle.schedule.proofs.JournalReplays.{journal_replays}
use Rattle.explain_steps.proofs.SerialIsPlain.{serial_is_plain}
use Rattle.explain_steps.proofs.laws.serial_run_replays.Goals as goal

pub returns : goal.returns
returns c = λ plan h answer checked run replays.
    journal_replays plan (journal_of h) h answer checked (record { run = serial_is_plain plan h run; tasks = refl }) replays
