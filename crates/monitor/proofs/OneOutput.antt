-- A trace calls for one output.
use Rattle.std.proofs.Common.{◌≡◌, ℕ, true, false, List, ◌++◌, sym, ◌∙◌, ap, subst, inl, inr}
use Rattle.monitor_words.specs.Messages.{report_words}
use Rattle.monitor_words.specs.Stops.{TellsStuck}
use Rattle.monitor_words.proofs.OneMessage.{one_test}
use Rattle.monitor_messages.specs.Runs.{IsMonitorRunOf, MonitorOptions, MonitorRun, ended_status}
use Rattle.monitor_messages.proofs.OneRun.{has_one_run}
use Rattle.monitor.specs.HeardLines.{all_lines, called_lines}
use Rattle.monitor.specs.Laws.{HasOneLastOutput, HasOneHeardOutput, HasOneWholeOutput}
use Rattle.monitor.specs.MonitorCalls.{IsLastFaultOutput, IsWholeOutput}
use Rattle.monitor.proofs.Cuts.{has_one_cut}

pub has_one_heard_output : HasOneHeardOutput
has_one_heard_output options bytes one other first second a b =
    let cut = has_one_cut bytes a.lines b.lines a.rest b.rest a.cut b.cut in
    has_one_run options (called_lines a.lines a.rest) one other first second a.leads
    (subst (λ x. IsMonitorRunOf options (called_lines x a.rest) other second) (sym cut.0)
    (subst (λ x. IsMonitorRunOf options (called_lines b.lines x) other second) (sym cut.1) b.leads))

pub has_one_last_output : HasOneLastOutput
has_one_last_output options bytes one other first second a b =
    let cut = has_one_cut bytes a.lines b.lines a.rest b.rest a.cut b.cut in
    has_one_run options (all_lines a.lines a.rest) one other first second a.leads
    (subst (λ x. IsMonitorRunOf options (all_lines x a.rest) other second) (sym cut.0)
    (subst (λ x. IsMonitorRunOf options (all_lines b.lines x) other second) (sym cut.1) b.leads))

-- a fault that ended it all is none where nothing did
not_both : (options : MonitorOptions) (bytes one other : List ℕ) (status : ℕ) → IsLastFaultOutput options bytes one → IsWholeOutput options bytes other status → ⊥
not_both options bytes one other status (run, stopped, heard) whole =
    let same = has_one_last_output options bytes run whole.run one whole.earlier heard whole.heard in
    let e : true ≡ false = sym stopped ∙ ap (λ (x : MonitorRun). x.stopped) same.0 ∙ whole.goes_on in
    cc

pub has_one_whole_output : HasOneWholeOutput
has_one_whole_output options bytes one other first second (inl (at, (run, stopped, heard))) (inl (too, (last, ended, says))) =
    ((has_one_last_output options bytes run last one other heard says).1, at ∙ sym too)
has_one_whole_output options bytes one other first second (inl (at, fault)) (inr whole) = absurd (not_both options bytes one other second fault whole)
has_one_whole_output options bytes one other first second (inr whole) (inl (at, fault)) = absurd (not_both options bytes other one first fault whole)
has_one_whole_output options bytes one other first second (inr a) (inr b) =
    let same = has_one_last_output options bytes a.run b.run a.earlier b.earlier a.heard b.heard in
    let tells : TellsStuck a.run.state b.stuck = subst (λ (x : MonitorRun). TellsStuck x.state b.stuck) (sym same.0) b.tells in
    let stuck : a.stuck ≡ b.stuck = one_test a.run.state a.stuck b.stuck a.tells tells in (
      a.is
          ∙ ap (λ x. x ++ report_words a.run.state a.stuck) same.1
          ∙ ap (λ x. b.earlier ++ report_words a.run.state x) stuck
          ∙ ap (λ (x : MonitorRun). b.earlier ++ report_words x.state b.stuck) same.0
          ∙ sym b.is,
      a.ends ∙ ap ended_status same.0 ∙ sym b.ends,
    )
