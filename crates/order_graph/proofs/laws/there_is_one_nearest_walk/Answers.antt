use Rattle.order_graph.proofs.OneWalk.{one_nearest_walk}
use Rattle.order_graph.proofs.laws.there_is_one_nearest_walk.Goals as goal

pub returns : goal.returns
returns c = one_nearest_walk
