use Rattle.report_laws.proofs.ExplainedSteps.{clock_steps_end_as_explained, steps_end_as_explained}
use Rattle.report_laws.proofs.agreement.steps_end_as_explained.Goals as goal

pub returns : goal.returns
returns c = record { text = steps_end_as_explained; clocks = clock_steps_end_as_explained }
