use Rattle.state_graph.proofs.Ends.{bounded_end}
use Rattle.state_graph.proofs.StatePlaces.{stays_small}
use Rattle.state_graph.proofs.graph.StateGraph.build_bounded.Goals as goal

pub returns-in-Err : goal.returns-in-Err
returns-in-Err c ss ok is = bounded_end ss ok _ is c.in-Err.end (c.in-Err.ensures is.ascend)

pub returns-in-Ok-finish : goal.returns-in-Ok-finish
returns-in-Ok-finish c ss ok is = (c.in-Ok-finish.ensures, stays_small ss ok _ is (c.in-Ok-grow.ensures.1 is.ascend))

pub finish-requires-clause-pairs : goal.finish-requires-clause-pairs
finish-requires-clause-pairs c = c.in-Ok-grow.ensures.0.pairs

pub finish-requires-clause-nodes : goal.finish-requires-clause-nodes
finish-requires-clause-nodes c = c.in-Ok-grow.ensures.0.nodes
