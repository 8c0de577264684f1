use Rattle.std.proofs.Common.{nat_eq, sym, subst}
use Rattle.std.specs.HashSet.{contains}
use Rattle.monitor_search.specs.inside.Cascades.{AreOut}
use Rattle.monitor_search.proofs.cascade.free_played_by.Goals as goal
use Rattle.monitor_search.proofs.cascade.free_played_by.Goals.{in-Some+in_ok-free_played_at, in_default}

pub loop-u-preserved : goal.loop-u-preserved
loop-u-preserved c = elim c.match-get.branch [
  | in-Some+in_ok-free_played_at w ↦ subst (λ out. AreOut c.args.state.now (contains nat_eq out)) (sym w.out-is) w.in_ok-free_played_at.ensures
  | in_default w ↦ subst (λ out. AreOut c.args.state.now (contains nat_eq out)) (sym w.out-is) c.loop-u.invariant
]
