use Rattle.std.proofs.Common.{nat_eq, ◌∙◌, ap}
use Rattle.std.specs.HashSet.{contains}
use Rattle.monitor_search.proofs.TakenOut.{out_added}
use Rattle.monitor_search.proofs.cascade.take_out.Goals as goal

pub returns-in_ok-push : goal.returns-in_ok-push
returns-in_ok-push c =
    out_added c.args.state.now (contains nat_eq c.args.out.now) (contains nat_eq c.insert.new.self) c.number.result c.requires.out
    (λ set closed. ap set c.number.ensures ∙ c.requires.alone set closed) c.in_ok-insert.ensures.updates.0

pub returns-else-branch : goal.returns-else-branch
returns-else-branch c =
    out_added c.args.state.now (contains nat_eq c.args.out.now) (contains nat_eq c.insert.new.self) c.number.result c.requires.out
    (λ set closed. ap set c.number.ensures ∙ c.requires.alone set closed) c.in_ok-insert.ensures.updates.0
