use Rattle.std.proofs.Common.{sym, subst, ap, ◌∙◌}
use Rattle.trace_lines.specs.Values.{line_value, place_value}
use Rattle.monitor_laws.specs.Lines.{Announces}
use Rattle.monitor_laws.specs.States.{after_line}
use Rattle.monitor_search.specs.Known.{AreStuckTasks}
use Rattle.monitor_search.proofs.FreedWildcards.{freed_wildcard_ends}
use Rattle.monitor_search.proofs.ahead.keeps_stuck_ahead.Goals as goal

pub returns-in-Announces : goal.returns-in-Announces
returns-in-Announces c = λ on known legal is.
    let s = c.args.state.now in
    let t = c.in-Announces.t.now in
    let place = place_value c.in-Announces.field-2 in
    let kept = freed_wildcard_ends s c.participants-list.ensures.lawful t place (c.ends_freed.ensures.freed on) known is in
    subst (λ l. AreStuckTasks (after_line s l) known) (sym (ap line_value c.in-Announces.is ∙ ap (λ w. Announces t w place) (c.ends_freed.ensures.end on))) kept
