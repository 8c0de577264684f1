use Rattle.std.proofs.Common.{◌++◌, ◌∙◌, ap}
use Rattle.monitor_words.specs.calls.Values.{state_counts}
use Rattle.monitor_words.specs.declared.reports.StateCounts.{StateCounts}
use Rattle.monitor_words.specs.declared.rows.ShownRows.{ShownRows}
use Rattle.monitor_words.specs.inside.ValueMessages.{shown_report_words}
use Rattle.monitor_words.proofs.Joined.{joins_report}
use Rattle.monitor_search.specs.Known.{has_stuck_number}
use Rattle.monitor_rows.proofs.reports.put_state_report.Goals as goal

pub returns : goal.returns
returns c =
    let s = c.args.state.now in
    let stuck = has_stuck_number c.args.stuck.now in
    let before = c.args.out.now.items in
    c.in_ok-put_report.ensures
    ∙ ap (λ (counts : StateCounts). before ++ shown_report_words counts c.in_ok-rows.rows) c.counts_of_state.ensures
    ∙ ap (λ (rows : ShownRows). before ++ shown_report_words (state_counts s stuck) rows) c.in_ok-rows.ensures
    ∙ ap (λ l. before ++ l) (joins_report s stuck)
