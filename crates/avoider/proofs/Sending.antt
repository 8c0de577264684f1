-- What is handed to a thread: a judge, and of what kind one is to be.
use denote.Param.Send.{IsSend, IsSync, sendable}
use Rattle.std.proofs.Crossing.{crosses}
use Rattle.order_graph.proofs.Sending.{order_send}
use Rattle.avoider.specs.contracts.judging.Judge as judges
use Rattle.avoider.specs.contracts.judging.Judging as judgings

pub judge_send : IsSend judges.the_row
judge_send = search (sendable, crosses, order_send) depth 30

pub judging_sync : IsSync judgings.the_row
judging_sync = search (sendable, crosses) depth 30
