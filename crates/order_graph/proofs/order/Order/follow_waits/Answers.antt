use Rattle.std.proofs.lemmas.Result.{IfOk-weaker}
use Rattle.order_graph.specs.calls.Following.{AnswersFollowing}
use Rattle.order_graph.specs.calls.Waits.{Awaits}
use Rattle.order_graph.specs.inside.Steps.{AnswersEdges, PairsFrom}
use Rattle.order_graph.proofs.PairEdges.{answers_following}
use Rattle.order_graph.proofs.order.Order.follow_waits.Goals as goal

pub returns-clause-followed : goal.returns-clause-followed
returns-clause-followed c =
    let old = c.args.self.now in
    let mid = c.drop_others.new.order in
    let new = c.add_missing.new.order in
    let pair = Awaits c.args.waits.now in
    let behind = c.in_ok-behind.behind.items in
    IfOk-weaker c.add_missing.result (AnswersEdges (PairsFrom pair behind) mid new) (AnswersFollowing pair old new)
    (answers_following pair behind old mid new c.in_ok-behind.ensures.others c.in_ok-behind.ensures.pairs c.add_missing.ensures.order)
    (rw c.deref.ensures.value at c.add_missing.ensures.pairs)
