use Rattle.report_laws.proofs.ReportedStandings.{activities_stand_as_reported, live_lines_name_the_dead, stand_as_avoided, stand_as_reported}
use Rattle.report_laws.proofs.reports.stand_as_reported.Goals as goal

pub returns : goal.returns
returns c = record {
  run = stand_as_reported;
  clocks = activities_stand_as_reported;
  avoided = stand_as_avoided;
  live = live_lines_name_the_dead;
}
