-- How a bounded build of the state graph ends without one.
use Rattle.std.specs.Prelude.{ℕ, ◌*◌, ◌<◌, ◌≤◌, List, length}
use Rattle.armus_base.specs.Graphs.{StateCount}
use Rattle.armus_base.specs.declared.status.Status.{Status}
use Rattle.state_graph.specs.declared.end.SgEnd.{SgEnd}
use Rattle.state_graph.specs.declared.end.SgEnd.TheVariants.{Left, NoMemory}

-- k is the first number of statuses over which the state graph has more than 2 k pairs, and n is their number there
pub record IsFirstLarge (ss : List Status) (k n : ℕ) : Type 0 where
  pub inside : k ≤ length ss
  pub count : StateCount ss k n
  pub large : 2 * k < n
  pub first : (j m : ℕ) → j < k → StateCount ss j m → m ≤ 2 * j

-- Left comes only at the first k at which the state graph has more than 2 k pairs, with their number
abbrev pub IsBoundedEnd : List Status → SgEnd → Type 0
IsBoundedEnd ss (Left k edges) = IsFirstLarge ss k edges
IsBoundedEnd ss NoMemory = Unit {0}
