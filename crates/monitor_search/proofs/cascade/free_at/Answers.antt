use Rattle.std.proofs.Common.{List, nat_eq, subst, ap, ◌∙◌}
use Rattle.std.specs.Prelude.{Contains}
use Rattle.std.specs.HashSet.{contains}
use Rattle.monitor_laws.specs.States.{Participant}
use Rattle.monitor_search.specs.inside.Cascades.{named_group, those_of}
use Rattle.monitor_search.specs.inside.Partings.{referred}
use Rattle.monitor_search.proofs.TakenOut.{least_is_inside}
use Rattle.monitor_search.proofs.cascade.free_at.Goals as goal

pub free_waiting-requires-clause-listed : goal.free_waiting-requires-clause-listed
free_waiting-requires-clause-listed c = λ u within.
    c.requires.waiting u c.args.p.now (subst (λ (l : List Participant). Contains l u) (ap referred c.deref.ensures.value ∙ ap those_of c.in-Some.ensures.value) within)

pub free_waiting-requires-clause-least : goal.free_waiting-requires-clause-least
free_waiting-requires-clause-least c =
    least_is_inside c.args.state.now (named_group c.args.table.now.members) (contains nat_eq c.args.out.now) c.requires.members c.requires.out c.args.p.now c.least_on-least.result c.least_on-least.ensures
