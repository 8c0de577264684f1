use Rattle.std.proofs.Common.{sym, ◌∙◌}
use Rattle.monitor_laws.specs.States.{is_there_as}
use Rattle.trace_lines.specs.Values.{said_value}
use Rattle.monitor_messages.specs.inside.Newly.{says_wait}
use Rattle.monitor_messages.proofs.Places.{found_at, found_where, none_found}
use Rattle.monitor_messages.proofs.newly.place_of_said.Goals as goal

pub returns : goal.returns
returns c =
    let t = is_there_as c.args.t.now in
    found_where (says_wait (said_value c.args.what.now)) t c.args.list.now c.place_there.result (sym c.says_wait.ensures ∙ c.if-not-says_wait.false)
    (found_at t c.args.list.now c.place_there.result c.place_there.ensures.at c.place_there.ensures.none)

pub returns-then-not-says_wait : goal.returns-then-not-says_wait
returns-then-not-says_wait c =
    none_found (says_wait (said_value c.args.what.now)) (is_there_as c.args.t.now) c.args.list.now (sym c.says_wait.ensures ∙ c.if-not-says_wait.true)
