use Rattle.std.proofs.Common.{sym, subst}
use Rattle.trace_lines.specs.Values.{line_value, place_value, said_value}
use Rattle.monitor_search.specs.Known.{KeepsStuck}
use Rattle.monitor_search.proofs.LeftByLines.{announces_keeps, any_keeps, one_of_keeps}
use Rattle.monitor_search.proofs.leaving.keeps_stuck.Goals as goal

pub returns-in-Announces : goal.returns-in-Announces
returns-in-Announces c = λ on.
    subst (λ x. KeepsStuck c.args.state.now (line_value x) c.args.was.now) (sym c.in-Announces.is)
    (announces_keeps c.args.state.now c.in-Announces.t.now (said_value c.in-Announces.field-1) (place_value c.in-Announces.field-2) c.args.was.now (c.leaves_stuck_by.ensures on))

pub returns-in-PlaysAny : goal.returns-in-PlaysAny
returns-in-PlaysAny c = λ on.
    subst (λ x. KeepsStuck c.args.state.now (line_value x) c.args.was.now) (sym c.in-PlaysAny.is)
    (any_keeps c.args.state.now c.in-PlaysAny.w.now c.args.was.now (c.has_no_phase.ensures on))

pub returns-in-PlaysOneOf : goal.returns-in-PlaysOneOf
returns-in-PlaysOneOf c = λ on.
    subst (λ x. KeepsStuck c.args.state.now (line_value x) c.args.was.now) (sym c.in-PlaysOneOf.is)
    (one_of_keeps c.args.state.now c.in-PlaysOneOf.w.now _ c.args.was.now (c.has_no_phase-in-PlaysOneOf.ensures on))
