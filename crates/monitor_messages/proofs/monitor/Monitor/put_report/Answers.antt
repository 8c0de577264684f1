use Rattle.std.proofs.Common.{◌≡◌, ◌++◌, ℕ, Bool, subst}
use Rattle.std.specs.Prelude.{OnOk}
use Rattle.monitor_words.specs.Messages.{report_words}
use Rattle.monitor_words.specs.Stops.{TellsStuck}
use Rattle.monitor_messages.specs.Runs.{MonitorRun}
use Rattle.monitor_messages.proofs.monitor.Monitor.put_report.Goals as goal

pub returns : goal.returns
returns c =
    subst (λ (run : MonitorRun). OnOk c.put_report.result ((stuck : ℕ → Bool) × TellsStuck run.state stuck × (c.put_report.new.out.items ≡ c.args.out.now.items ++ report_words run.state stuck)))
    c.self.view_is c.put_report.ensures
