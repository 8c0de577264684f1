-- Where a bounded build leaves off.
use Rattle.std.specs.Prelude.{◌*◌, ◌<◌, ◌≤◌, length}
use Rattle.dep_state.specs.calls.Deps.{Deps}
use Rattle.state_graph.specs.inside.Growing.{IsStateCount, StaysSmallBelow}
use Rattle.state_graph.specs.declared.end.SgEnd.{SgEnd}
use Rattle.state_graph.specs.declared.end.SgEnd.TheVariants.{Left, NoMemory}

-- a bounded build ends so: over the first k tasks, and no fewer, there are more than 2 k pairs of places, or memory was wanting
abbrev pub IsEndAt : Deps → SgEnd → Type 0
IsEndAt d (Left k edges) = (k ≤ length d.tasks) × IsStateCount d k edges × (2 * k < edges) × StaysSmallBelow d k
IsEndAt d NoMemory = Unit {0}
