-- What threads share, and what is handed to one: a pool, and its workers.
use denote.RattleType.{RattleType}
use denote.Param.Send.{IsSend, IsSync, sendable}
use Rattle.std.proofs.Crossing.{crosses}
use Rattle.std.proofs.alloc.Global.TheSendSync as heap
use Rattle.atomic_table.proofs.shared.Seat.TheSendSync.{the_send as place_send}
use Rattle.atomic_table.proofs.shared.Shared.TheSendSync.{the_sync as shared_sync}
use Rattle.atomic_table.proofs.send_lease.SendLease.TheSendSync.{the_sync as lease_sync}
use Rattle.slot_pool.specs.declared.named.Named.{Ghosts}
use Rattle.slot_pool.specs.contracts.pool.Pool as pools
use Rattle.slot_pool.specs.contracts.worker.Worker as workers

-- threads may share a pool of records that may be handed to a thread
pub pool_sync : (R : RattleType) (named : Ghosts R.Denot) → IsSend R → IsSync (pools.the_row R named)
pool_sync R named records = search (sendable, crosses, shared_sync, lease_sync, heap.the_send, heap.the_sync) depth 30

-- and its workers may be handed to one
pub worker_send : (R : RattleType) (named : Ghosts R.Denot) → IsSend R → IsSend (workers.the_row R named)
worker_send R named records = search (sendable, crosses, place_send, heap.the_send, heap.the_sync) depth 30
