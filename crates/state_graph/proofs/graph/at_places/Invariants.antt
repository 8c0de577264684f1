use Rattle.state_graph.specs.inside.Growing.{IsAnswersAt}
use Rattle.state_graph.proofs.graph.at_places.Given as goal

abbrev pub invariant-loop-k : goal.invariant-loop-k
invariant-loop-k l = IsAnswersAt l.answers l.places l.k l.ats.items
