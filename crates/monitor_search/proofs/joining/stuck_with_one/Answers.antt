use Rattle.std.proofs.Common.{sym, subst}
use Rattle.trace_lines.specs.Values.{line_value, place_value, said_value}
use Rattle.monitor_search.specs.Known.{AreStuckAfter}
use Rattle.monitor_search.proofs.LeftByLines.{announces_joins}
use Rattle.monitor_search.proofs.OneMore.{found_weaker, joined_differs}
use Rattle.monitor_search.proofs.joining.stuck_with_one.Goals as goal

pub returns-in_ok-found-in-Announces-clause-stuck : goal.returns-in_ok-found-in-Announces-clause-stuck
returns-in_ok-found-in-Announces-clause-stuck c =
    found_weaker c.in_ok-found-in-Announces.found
    (λ known joined.
    subst (λ x. AreStuckAfter c.args.state.now (line_value x) c.args.was.now known) (sym c.in-Announces.is)
    (announces_joins c.args.state.now c.in-Announces.t.now (said_value c.in-Announces.field-1) (place_value c.in-Announces.field-2) c.args.was.now known joined))
    c.in_ok-found-in-Announces.ensures

pub returns-in_ok-found-in-Announces-clause-differs : goal.returns-in_ok-found-in-Announces-clause-differs
returns-in_ok-found-in-Announces-clause-differs c =
    found_weaker c.in_ok-found-in-Announces.found (λ known joined. joined_differs c.args.state.now.list c.args.was.now known c.in-Announces.t.now joined) c.in_ok-found-in-Announces.ensures
