-- At which coming of a clock text an activity makes a move.
use Rattle.std.specs.Prelude.{◌≡◌, ℕ, [], Some, slice_index_or}
use Rattle.std.specs.List.{slice_get}
use Rattle.clock_semantics.specs.Moves.{Move}
use Rattle.clock_semantics.specs.Unfolding.{ClockComing, ClockStart, ClockUnfolding, comings_of}
use Rattle.clock_source_map.specs.ClockOps.{moving_comings}

-- activity t makes this move at this coming: it is move k of the activity, and the coming is number k of those at which it makes one
pub record MakesMoveAt (u : ClockUnfolding) (t k : ℕ) (m : ClockComing) (move : Move) : Type 0 where
  pub start : ClockStart
  pub started : slice_get u.starts t ≡ Some start
  pub comes : slice_get (moving_comings (comings_of start.first start.body)) k ≡ Some m
  pub makes : slice_get (slice_index_or u.moves t []) k ≡ Some move
