use Rattle.std.proofs.Common.{rules, ◌≡◌, ◌<◌, ◌∙◌, List, ℕ, true, false, length, get_or}
use Rattle.std.specs.Prelude.{Bool}
use Rattle.std.proofs.lemmas.List.{length-map}
use Rattle.digraph.specs.calls.Cycle.{IsLeastSuccessor}
use Rattle.digraph.specs.calls.Graph.{TellsCycles, graph_of}
use Rattle.digraph.specs.inside.NextTables.{AreNext, IsStepOn}
use Rattle.digraph.proofs.NextTables.{walk_by_table}
use Rattle.digraph.proofs.SearchSteps.{read_at}
use Rattle.digraph.proofs.graph.Digraph.cycle_from.Goals as goal

pub reaching-requires-clause-graph : goal.reaching-requires-clause-graph
reaching-requires-clause-graph c = rw c.deref.ensures.value c.self.invariant.rows

pub successors-requires-clause-graph : goal.successors-requires-clause-graph
successors-requires-clause-graph c = rw c.deref-2.ensures.value c.self.invariant.rows

pub returns : goal.returns
returns c =
    let g : List (List ℕ) = graph_of c.self.inside.rows.items in
    let n : ℕ = length c.self.inside.rows.items in
    let answers : List Bool = c.in_ok-answers.answers.items in
    let table : AreNext (IsStepOn g answers) n n c.in_ok-next.next.items = rw (c.deref-2.ensures.value, c.deref-3.ensures.value) at c.in_ok-next.ensures in
    let walk = rw c.deref-4.ensures.value at c.in_ok-cycle.ensures in
    let small : c.args.v < length g = rw (← c.self.view_is) at c.requires in
    let inside : c.args.v < n = rw length-map at small in
    let tells : TellsCycles g answers = rw c.deref.ensures.value at c.in_ok-answers.ensures in
    let there : c.args.v < length answers = rw tells.sized small in
    let yes : c.index.result.now ≡ true = search rules in
    let on : get_or answers c.args.v false ≡ true = read_at answers c.args.v c.index.result.now false there c.index.ensures ∙ yes in
    rw c.from_vec.ensures.items
    (rw (← c.self.view_is)
    (walk_by_table (IsStepOn g answers) (IsLeastSuccessor g) (λ a. get_or answers a false ≡ true) (λ a b reaches step. step reaches) n c.in_ok-next.next.items
    c.args.v c.in_ok-cycle.cycle.items table inside on walk))
