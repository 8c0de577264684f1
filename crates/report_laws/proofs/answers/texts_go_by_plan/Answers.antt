use Rattle.report_laws.proofs.OnePlan.{record_goes_by_plan, replay_goes_by_plan, texts_have_no_schedule}
use Rattle.report_laws.proofs.answers.texts_go_by_plan.Goals as goal

pub returns : goal.returns
returns c = record { replay = replay_goes_by_plan; alone = texts_have_no_schedule; journals = record_goes_by_plan }
