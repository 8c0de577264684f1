use Rattle.std.proofs.Common.{arith}
use Rattle.digraph.specs.calls.Graph.{graph_of}
use Rattle.digraph.proofs.RowLemmas.{few_edges, added_digraph, same_digraph}
use Rattle.std.proofs.lemmas.Bool.Decides.{when_true, when_false}
use Rattle.digraph.proofs.graph.Digraph.add.Goals as goal

pub overflow_add-self : goal.overflow_add-self
overflow_add-self c =
    let few = few_edges (graph_of c.self.inside.rows.items) c.self.invariant.rows c.self.invariant.few in
    let is = c.self.invariant.counted in
    omega (arith, few, is)

pub returns-then-fresh-clause-fresh : goal.returns-then-fresh-clause-fresh
returns-then-fresh-clause-fresh c = rw (← c.self.view_is) c.in_ok-fresh.ensures.fresh

pub returns-else-fresh-clause-fresh : goal.returns-else-fresh-clause-fresh
returns-else-fresh-clause-fresh c = rw (← c.self.view_is) c.in_ok-fresh.ensures.fresh

pub invariant_of-self-then-fresh : goal.invariant_of-self-then-fresh
invariant_of-self-then-fresh c =
    let e = c.in_ok-fresh.ensures in
    let new = when_true _ _ c.if-fresh.true e.fresh in
    let one = rw c.if-fresh.true at e.count in
    added_digraph _ _ _ _ _ c.self.invariant e.graph e.edges new one

pub invariant_of-self-else-fresh : goal.invariant_of-self-else-fresh
invariant_of-self-else-fresh c =
    let e = c.in_ok-fresh.ensures in
    let has = when_false _ _ c.if-fresh.false e.fresh in
    let none = rw c.if-fresh.false at e.count in
    same_digraph _ _ _ _ _ c.self.invariant e.graph e.edges has (omega (arith, none))
