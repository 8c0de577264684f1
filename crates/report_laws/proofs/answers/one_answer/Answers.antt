use Rattle.report_laws.proofs.OneAnswer.{one_answer, runs_report_alike}
use Rattle.report_laws.proofs.answers.one_answer.Goals as goal

pub returns : goal.returns
returns c = record { one = one_answer; alike = runs_report_alike }
