use Rattle.std.proofs.Common.{nat_eq, sym, subst}
use Rattle.std.specs.HashSet.{contains}
use Rattle.monitor_search.specs.inside.Cascades.{AreOut}
use Rattle.monitor_search.proofs.cascade.free_played_at.Goals as goal
use Rattle.monitor_search.proofs.cascade.free_played_at.Goals.{then-place-list+in_ok-free_played, else-place-list}

pub loop-place-preserved : goal.loop-place-preserved
loop-place-preserved c = elim c.if-place-list.branch [
  | then-place-list+in_ok-free_played w ↦ subst (λ out. AreOut c.args.state.now (contains nat_eq out)) (sym w.out-is) w.in_ok-free_played.ensures
  | else-place-list w ↦ subst (λ out. AreOut c.args.state.now (contains nat_eq out)) (sym w.out-is) c.loop-place.invariant
]
