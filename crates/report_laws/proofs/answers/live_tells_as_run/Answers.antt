use Rattle.report_laws.proofs.LiveLines.{live_clock_tells_as_clock, live_run_tells_as_run}
use Rattle.report_laws.proofs.answers.live_tells_as_run.Goals as goal

pub returns : goal.returns
returns c = record { run = live_run_tells_as_run; clock = live_clock_tells_as_clock }
