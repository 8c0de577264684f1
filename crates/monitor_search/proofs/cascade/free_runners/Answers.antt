use Rattle.std.proofs.Common.{◌≡◌, ◌<◌, true, length, nat_eq, sym, subst, rules}
use Rattle.std.specs.HashSet.{contains}
use Rattle.monitor_search.specs.inside.Cascades.{AreOut}
use Rattle.monitor_search.specs.inside.Leaving.{is_freed}
use Rattle.monitor_search.proofs.TakenOut.{freed_is_out}
use Rattle.monitor_search.proofs.cascade.free_runners.Goals as goal
use Rattle.monitor_search.proofs.cascade.free_runners.Goals.{then-is_freed_at_once+in_ok-take_out, else-is_freed_at_once}

pub take_out-requires-clause-alone : goal.take_out-requires-clause-alone
take_out-requires-clause-alone c =
    let list = c.participants-list.result.now in
    let within : c.loop-u.u-index < length list = search rules in
    freed_is_out c.args.state.now list c.participants-list.ensures.list c.u-item.result (c.loop-u.u-index, within, sym c.u-item.is)
    (subst (λ x. is_freed list x ≡ true) c.condition.ensures (c.is_freed_at_once.ensures c.if-is_freed_at_once.true))

pub loop-u-preserved : goal.loop-u-preserved
loop-u-preserved c = elim c.if-is_freed_at_once.branch [
  | then-is_freed_at_once+in_ok-take_out w ↦ subst (λ out. AreOut c.args.state.now (contains nat_eq out)) (sym w.out-is) w.in_ok-take_out.ensures
  | else-is_freed_at_once w ↦ subst (λ out. AreOut c.args.state.now (contains nat_eq out)) (sym w.out-is) c.loop-u.invariant
]
