use Rattle.std.proofs.Common.{rules, ◌++◌, [], refl, ◌∙◌, ap, inl, inr, subst}
use Rattle.monitor_messages.specs.Runs.{MonitorRun}
use Rattle.monitor.specs.Transfers.{bytes_written}
use Rattle.monitor.specs.inside.Ending.{EndsReport}
use Rattle.monitor.specs.calls.StatusNumbers.{number_of_monitor_status}
use Rattle.monitor.proofs.Endings.{ends_with_fault, ends_with_line, ends_with_report}
use Rattle.monitor.proofs.Logs.{passes_more, passes_nothing, writes_more, written_more}
use Rattle.monitor.proofs.ending.end_trace.Goals as goal

pub returns-in-Err-clause-ends : goal.returns-in-Err-clause-ends
returns-in-Err-clause-ends g c = ([], passes_nothing _, tt, inr (inr (refl, inl refl)))

pub returns-in-Err-write_called-clause-ends : goal.returns-in-Err-write_called-clause-ends
returns-in-Err-write_called-clause-ends g c =
    let h = c.in_default.ensures in
    let log = c.in-Err-write_called.ensures.err in
    let line = log.4 ∙ h.1 ∙ ap (λ l. l ++ h.0) c.requires.out in
    (log.0, log.2, log.3, inr (inl (refl, (log.1, inl (ends_with_line c.args.listener.now c.hear_end.new.self.run h.0 (bytes_written log.0 ++ log.1) h.2 line)))))

pub returns-then-is_stopped-clause-ends : goal.returns-then-is_stopped-clause-ends
returns-then-is_stopped-clause-ends g c =
    let h = c.in_default.ensures in
    let log = c.in_default-write_called.ensures.ok in
    let line = log.3 ∙ h.1 ∙ ap (λ l. l ++ h.0) c.requires.out in
    (log.0, log.1, log.2, inl (ends_with_fault c.args.listener.now c.hear_end.new.self.run h.0 (bytes_written log.0) h.2 line (search rules)))

pub returns-clause-ends : goal.returns-clause-ends
returns-clause-ends g c =
    let h = c.in_default.ensures in
    let log = c.in_default-write_called.ensures.ok in
    let line = log.3 ∙ h.1 ∙ ap (λ l. l ++ h.0) c.requires.out in
    let more = c.end_with_report.ensures.ends in
    let run = c.hear_end.new.self.run in
    let ends : EndsReport run (bytes_written more.0) (number_of_monitor_status c.end_with_report.result) =
    subst (λ (x : MonitorRun). EndsReport x (bytes_written more.0) (number_of_monitor_status c.end_with_report.result)) c.monitor-2.ensures more.3
    in (
      more.0 ++ log.0,
      passes_more _ _ _ log.0 more.0 log.1 more.1,
      writes_more more.0 log.0 more.2 log.2,
      ends_with_report c.args.listener.now run h.0 (bytes_written more.0) (bytes_written (more.0 ++ log.0)) (number_of_monitor_status c.end_with_report.result) h.2 (search rules)
          (written_more more.0 log.0 ∙ ap (λ l. l ++ bytes_written more.0) line) ends,
    )
