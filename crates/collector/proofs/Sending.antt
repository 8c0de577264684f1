-- What is handed to a thread: a collector, and a verdict.
use denote.Param.Send.{IsSend, sendable}
use Rattle.std.proofs.Crossing.{crosses}
use Rattle.collector.specs.contracts.collector.Collector as collectors
use Rattle.collector.specs.contracts.verdict.Verdict as verdicts
use Rattle.phase_scan.proofs.Sending.{cells_send}

pub collector_send : IsSend collectors.the_row
collector_send = search (sendable, cells_send, crosses) depth 30

pub verdict_send : IsSend verdicts.the_row
verdict_send = search (sendable, crosses) depth 30
