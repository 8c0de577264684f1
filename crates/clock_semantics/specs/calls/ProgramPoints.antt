-- Where an activity of a clock program stands in its text, to which part it comes there, and where it stands behind that.
use Rattle.std.specs.Prelude.{ℕ, zero, suc, ◌+◌, ◌-◌, List, ◌∷◌, Option, Some, None, option_to_list}
use Rattle.clock_syntax.specs.Trees.{ClockTree, clock_count, done, plain, async, finish, loop}
use Rattle.clock_semantics.specs.Unfolding.{ClockComing, ClockStart, a_close, a_finish, a_loop, a_plain, a_turn, an_async, coming, innermost}

-- where an activity stands in its text
pub data ProgramPoint : Type 0 where
  before : (statement : ℕ) → ClockTree → ProgramPoint → ProgramPoint  -- before these statements, the first of which has this number, and then the point behind them
  turning : (statement left : ℕ) → ClockTree → ProgramPoint → ProgramPoint  -- before so many turns of the loop with this number
  closing : (statement finish : ℕ) → ProgramPoint → ProgramPoint  -- before the end of this finish
  last : (statement : ℕ) → Option ℕ → ProgramPoint  -- before its own end: the statement that started it, or 0, and the finish that governs it, if one does

-- where an activity begins that is started so
abbrev pub first_point : ClockStart → ProgramPoint
first_point start = before start.first start.body (last (start.first - 1) (innermost start.known.governing))

-- the finishes whose ends are still to come, the innermost first, and behind them the one that governs the activity
abbrev pub finishes_around : ProgramPoint → List ℕ
finishes_around (before n body rest) = finishes_around rest
finishes_around (turning n k body rest) = finishes_around rest
finishes_around (closing n f rest) = f ∷ finishes_around rest
finishes_around (last n f) = option_to_list f

-- the part of the text to which the activity comes there; none before its end
abbrev pub part_at : ProgramPoint → Option ClockComing
part_at (before n done rest) = part_at rest
part_at (before n (plain s more) rest) = Some (coming n (a_plain s))
part_at (before n (async xs body more) rest) = Some (coming n (an_async xs body))
part_at (before n (finish body more) rest) = Some (coming n a_finish)
part_at (before n (loop k body more) rest) = Some (coming n a_loop)
part_at (turning n zero body rest) = part_at rest
part_at (turning n (suc k) body rest) = Some (coming n a_turn)
part_at (closing n f rest) = Some (coming n a_close)
part_at (last n f) = None

-- the point behind that part; f is the number of a finish that begins there
abbrev pub behind : ℕ → ProgramPoint → ProgramPoint
behind f (before n done rest) = behind f rest
behind f (before n (plain s more) rest) = before (n + 1) more rest
behind f (before n (async xs body more) rest) = before (n + 1 + clock_count body) more rest
behind f (before n (finish body more) rest) = before (n + 1) body (closing n f (before (n + 1 + clock_count body) more rest))
behind f (before n (loop k body more) rest) = turning n k body (before (n + 1 + clock_count body) more rest)
behind f (turning n zero body rest) = behind f rest
behind f (turning n (suc k) body rest) = before (n + 1) body (turning n k body rest)
behind f (closing n g rest) = rest
behind f (last n g) = last n g

-- the statement that started the activity, or 0
abbrev pub starter_of : ProgramPoint → ℕ
starter_of (before n body rest) = starter_of rest
starter_of (turning n k body rest) = starter_of rest
starter_of (closing n f rest) = starter_of rest
starter_of (last n f) = n
