use Rattle.std.proofs.Common.{nat_eq, subst}
use Rattle.std.specs.HashSet.{contains}
use Rattle.monitor_search.specs.inside.Cascades.{IsPlayedOut}
use Rattle.monitor_search.proofs.TakenOut.{played_is_out}
use Rattle.monitor_search.proofs.cascade.free_played.Goals as goal

pub take_out-requires-clause-alone : goal.take_out-requires-clause-alone
take_out-requires-clause-alone c =
    played_is_out c.args.state.now (contains nat_eq c.args.out.now) c.requires.out c.args.u.now c.requires.listed
    (subst (λ x. IsPlayedOut c.args.state.now.list x (contains nat_eq c.args.out.now)) c.condition.ensures (c.is_played_out.ensures c.if-is_played_out.true))
