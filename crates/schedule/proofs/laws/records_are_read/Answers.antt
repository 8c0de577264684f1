use Rattle.schedule.proofs.JournalFits.{journal_fits_plan}
use Rattle.schedule.proofs.RecordIsRead.{record_is_read}
use Rattle.schedule.proofs.laws.records_are_read.Goals as goal

pub returns : goal.returns
returns c = record { read = record_is_read; fits = journal_fits_plan }
