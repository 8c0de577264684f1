use Rattle.std.proofs.Common.{ap, length, ◌∙◌}
use Rattle.std.proofs.Common.{replicate, false, [], List, ℕ}
use Rattle.digraph.specs.calls.Graph.{graph_of}
use Rattle.state_graph.proofs.GrowingPairs.{grown_none}
use Rattle.state_graph.proofs.growth.start.Goals as goal

pub returns : goal.returns
returns c =
    let events = ap length c.events-events.ensures.events in
    let zero : ℕ = 0 in
    grown_none c.args.deps.now c.in_ok-graph.graph c.in_ok-seen.seen.items c.in_ok-next.next.items (graph_of c.in_ok-waiting.waiting.items)
    (c.in_ok-graph.ensures ∙ ap (λ n. replicate {A = List ℕ} n []) events)
    (c.in_ok-seen.ensures.items_if_clones_equal (λ x h. h) ∙ ap (λ n. replicate n false) events)
    (c.in_ok-next.ensures.items_if_clones_equal (λ x h. h) ∙ ap (λ n. replicate n zero) events)
    (c.in_ok-waiting.ensures ∙ ap (λ n. replicate {A = List ℕ} n []) (ap length c.tasks.ensures.tasks))
