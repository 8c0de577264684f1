use Rattle.std.proofs.lemmas.Result.{IfOk-weaker}
use Rattle.armus_base.specs.Graphs.{WaitsFor}
use Rattle.order_graph.specs.calls.Following.{AnswersFollow, AnswersFollowing}
use Rattle.order_graph.specs.calls.Waits.{Awaits}
use Rattle.order_graph.proofs.PairEdges.{follows_same}
use Rattle.order_graph.proofs.order.Order.follow.Goals as goal

pub returns-clause-followed : goal.returns-clause-followed
returns-clause-followed c ss ok is =
    let old = c.args.self.now in
    let new = c.follow_waits.new.self in
    let w = c.in_ok-waits.waits in
    IfOk-weaker c.follow_waits.result (AnswersFollowing (Awaits w) old new) (AnswersFollow ss old new)
    (follows_same (Awaits w) (WaitsFor ss) old new (c.in_ok-waits.ensures.pairs ss ok is)) c.follow_waits.ensures.followed
