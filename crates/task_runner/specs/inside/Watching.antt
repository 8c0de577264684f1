-- How contracts see a live_reporter.
use Rattle.task_runner.specs.declared.live_reporter.LiveReporter.TheInside.{Inside}
use Rattle.task_runner.specs.inside.LiveReporters.{Telling}

-- its collector, its viewer, whom it told, and whom its last pass named
abbrev pub telling_of : Inside → Telling
telling_of t = record { collector = t.collector; view = t.view; dead = t.dead.items; last = t.last }
