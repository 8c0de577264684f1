use Rattle.locked_world.proofs.Journals.{each_goes_on, journal_leads, leads_is_journal}
use Rattle.locked_world.proofs.laws.journal_leads.Goals as goal

pub returns : goal.returns
returns c = record { leads = journal_leads; journal = leads_is_journal; each = each_goes_on }
