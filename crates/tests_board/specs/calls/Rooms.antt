-- What is kept of tasks that walk on a board, and of what watches them.
use Rattle.std.specs.Prelude.{◌≡◌, Bool, false, List, All, length}
use Rattle.armus_base.specs.declared.op.Op.{Op}
use Rattle.armus_base.specs.Plans.{Plan}
use Rattle.board.specs.calls.Seats.{Frame, IsOf, Known}
use Rattle.board.specs.inside.Walking.{HasLeft}
use Rattle.phase_scan.specs.calls.Collects.{Collection}
use Rattle.collector.specs.calls.Passes.{Watch}
use Rattle.armus_base.specs.Deadlocks.{NobodyDead}
use Rattle.order_graph.specs.calls.Orders.{OrderValue}
use Rattle.pl_core.specs.calls.Worlds.{WorldValue, state_of}

-- the seat does not hold the lock, and while no await was decided these ops are left to its task
pub record Walks (decided : Bool) (ops : List Op) (k : Known) : Type 0 where
  pub free : k.view.holds ≡ false
  pub left : decided ≡ false → HasLeft ops k

-- the cells are for as many tasks and phasers as the board has
pub record IsRoomFor (board : Frame) (cells : Collection) : Type 0 where
  pub tasks : cells.tasks ≡ length board.plan.parents
  pub phasers : cells.phasers ≡ length board.plan.makers

-- the detector is for as many tasks and phasers as the board has
pub record IsWatchOf (board : Frame) (watch : Watch) : Type 0 where
  pub tasks : watch.tasks ≡ length board.plan.parents
  pub phasers : watch.phasers ≡ length board.plan.makers

-- the board is of this plan, the seats and the viewer are of this board, and the detector and the cells are for it
pub record ArePlayed (board : Frame) (plan : Plan) (seats : List Known) (view : Known) (watch : Watch) (cells : Collection) : Type 0 where
  pub of_plan : board.plan ≡ plan
  pub of_seats : All (λ s. IsOf s board) seats
  pub of_view : IsOf view board
  pub of_watch : IsWatchOf board watch
  pub of_cells : IsRoomFor board cells

-- nobody is dead in the world, and the order is of its tasks
pub record IsWithOrder (world : WorldValue) (order : OrderValue) : Type 0 where
  pub nobody : NobodyDead (state_of world)
  pub tasks : length order.positions ≡ length world.plan.parents
