use Rattle.std.proofs.Common.{◌<◌, length, nat_eq, sym, subst, rules}
use Rattle.std.specs.HashSet.{contains}
use Rattle.monitor_search.specs.inside.Cascades.{AreOut}
use Rattle.monitor_search.proofs.References.{in_referred}
use Rattle.monitor_search.proofs.TakenOut.{free_wait_is_out}
use Rattle.monitor_search.proofs.cascade.free_waiting.Goals as goal
use Rattle.monitor_search.proofs.cascade.free_waiting.Goals.{then-is_free_wait+in_ok-take_out, else-is_free_wait}

pub take_out-requires-clause-alone : goal.take_out-requires-clause-alone
take_out-requires-clause-alone c =
    let these = c.args.these.now in
    let within : c.loop-t.t-index < length these = search rules in
    free_wait_is_out c.args.state.now c.args.p.now c.args.least c.requires.least c.t-item.result.now
    (c.requires.listed c.t-item.result.now (in_referred these c.loop-t.t-index c.t-item.result within c.t-item.is))
    (c.is_free_wait.ensures c.if-is_free_wait.true)

pub loop-t-preserved : goal.loop-t-preserved
loop-t-preserved c = elim c.if-is_free_wait.branch [
  | then-is_free_wait+in_ok-take_out w ↦ subst (λ out. AreOut c.args.state.now (contains nat_eq out)) (sym w.out-is) w.in_ok-take_out.ensures
  | else-is_free_wait w ↦ subst (λ out. AreOut c.args.state.now (contains nat_eq out)) (sym w.out-is) c.loop-t.invariant
]
