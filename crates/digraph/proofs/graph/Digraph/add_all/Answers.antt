use Rattle.std.proofs.Common.{arith, ◌∙◌, Result, Ok, Err}
use Rattle.std.proofs.lemmas.List.{take_all}
use Rattle.std.specs.Result.{OnErr}
use Rattle.digraph.proofs.AddedEdges.{one_more, some_more}
use Rattle.digraph.proofs.graph.Digraph.add_all.Goals as goal

pub loop-b-preserved : goal.loop-b-preserved
loop-b-preserved c =
    let e = c.in_ok-add.ensures.edges in
    record {
      nodes = e.nodes ∙ c.loop-b.invariant.nodes;
      edges = one_more _ _ _ _ _ c.loop-b.b-index (omega arith) c.loop-b.invariant.edges e;
    }

pub returns-clause-edges : goal.returns-clause-edges
returns-clause-edges c =
    let t = take_all c.loop-b.b-index c.args.list.now (omega arith) in
    record { nodes = c.loop-b.invariant.nodes; edges = rw t at c.loop-b.invariant.edges }

on_err : {E P : Type 0} (r : Result (Unit {0}) E) → P → OnErr r P
on_err (Ok x) p = tt
on_err (Err y) p = p

pub returns-in_err-add-clause-err : goal.returns-in_err-add-clause-err
returns-in_err-add-clause-err c =
    on_err c.from_residual.result (rw c.in_err-add.ensures.err (some_more c.args.self.now c.loop-b.self c.args.a c.args.list.now c.loop-b.b-index c.loop-b.invariant.edges))
