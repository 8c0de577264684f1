use Rattle.std.proofs.Common.{None, sym, subst}
use Rattle.trace_lines.specs.Values.{line_value}
use Rattle.monitor_messages.specs.inside.Newly.{IsFoundAt, waits_by}
use Rattle.monitor_messages.proofs.Places.{nobody_found}
use Rattle.monitor_messages.proofs.newly.place_of_wait.Goals as goal

pub returns-in-SaysNothing : goal.returns-in-SaysNothing
returns-in-SaysNothing c = subst (λ l. IsFoundAt (waits_by (line_value l)) c.args.list.now None) (sym c.in-SaysNothing.is) (nobody_found c.args.list.now)

pub returns-in-AsksReport : goal.returns-in-AsksReport
returns-in-AsksReport c = subst (λ l. IsFoundAt (waits_by (line_value l)) c.args.list.now None) (sym c.in-AsksReport.is) (nobody_found c.args.list.now)

pub returns-in-AsksList : goal.returns-in-AsksList
returns-in-AsksList c = subst (λ l. IsFoundAt (waits_by (line_value l)) c.args.list.now None) (sym c.in-AsksList.is) (nobody_found c.args.list.now)

pub returns-in-AreGone : goal.returns-in-AreGone
returns-in-AreGone c = subst (λ l. IsFoundAt (waits_by (line_value l)) c.args.list.now None) (sym c.in-AreGone.is) (nobody_found c.args.list.now)

pub returns-in-Announces : goal.returns-in-Announces
returns-in-Announces c =
    subst (λ l. IsFoundAt (waits_by (line_value l)) c.args.list.now c.place_of_said.result) (sym c.in-Announces.is) c.place_of_said.ensures

pub returns-in-PlaysAny : goal.returns-in-PlaysAny
returns-in-PlaysAny c = subst (λ l. IsFoundAt (waits_by (line_value l)) c.args.list.now None) (sym c.in-PlaysAny.is) (nobody_found c.args.list.now)

pub returns-in-PlaysOneOf : goal.returns-in-PlaysOneOf
returns-in-PlaysOneOf c = subst (λ l. IsFoundAt (waits_by (line_value l)) c.args.list.now None) (sym c.in-PlaysOneOf.is) (nobody_found c.args.list.now)
