use Rattle.std.specs.Prelude.{◌≡◌, map}
use Rattle.std.proofs.lemmas.Result.{IfOk-weaker}
use Rattle.digraph.specs.calls.Graph.{TellsCycles, graph_of}
use Rattle.digraph.specs.inside.Search.{is_cyclic}
use Rattle.digraph.proofs.SearchSteps.{tells}
use Rattle.digraph.proofs.search.reaching.Goals as goal

pub returns : goal.returns
returns c =
    IfOk-weaker c.answers.result (λ v. v.items ≡ map is_cyclic c.deref.result.now) (λ v. TellsCycles (graph_of c.args.rows.now) v.items)
    (λ v e. rw (e, c.deref.ensures.value) (tells _ _ c.in_ok-marks.ensures))
    c.answers.ensures
