use Rattle.std.proofs.Common.{get_or, subst, inl, inr}
use Rattle.std.specs.Prelude.{All, Contains}
use Rattle.std.proofs.lemmas.List.Elements.{All-contains, Contains-get_or}
use Rattle.std.proofs.lemmas.Result.{IfOk-weaker}
use Rattle.armus_base.specs.declared.ids.TaskId.{TaskId}
use Rattle.order_graph.specs.calls.Orders.{IsTaskOf}
use Rattle.order_graph.specs.inside.Steps.{AnswersEdges, ToWanted}
use Rattle.order_graph.proofs.PairEdges.{answers_missing}
use Rattle.order_graph.proofs.following.add_row.Goals as goal

pub add_edges-requires-clause-wanted : goal.add_edges-requires-clause-wanted
add_edges-requires-clause-wanted c =
    let missing = c.in_ok-missing.missing.items in
    let tasks : All (IsTaskOf c.args.order.now) missing = λ k d lt. All-contains (IsTaskOf c.args.order.now) c.args.wanted.now (get_or missing k d) c.requires.wanted (c.in_ok-missing.ensures.within (get_or missing k d)
    (Contains-get_or missing k d lt)).0 in
    rw c.deref.ensures.value tasks

pub returns-clause-row : goal.returns-clause-row
returns-clause-row c =
    let missing = c.in_ok-missing.missing.items in
    let wanted = c.args.wanted.now in
    let old = c.args.order.now in
    let new = c.add_edges.new.order in
    IfOk-weaker c.add_edges.result (AnswersEdges (ToWanted c.args.t missing) old new) (AnswersEdges (ToWanted c.args.t wanted) old new)
    (answers_missing c.args.t missing wanted old new (λ b m. (c.in_ok-missing.ensures.within b m).0)
    (λ b m. elim (c.in_ok-missing.ensures.all b m) [ inl l ↦ inl l | inr r ↦ inr (subst (λ ts. Contains {X = TaskId} ts b) c.row-row.ensures.row r) ]))
    (rw c.deref.ensures.value at c.add_edges.ensures.row)
