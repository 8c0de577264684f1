use Rattle.std.proofs.Common.{ℕ, ◌<◌, ◌≤◌, List, length, count_by}
use Rattle.std.specs.Prelude.{All}
use Rattle.armus_base.specs.calls.Relations.{ReachesCycle}
use Rattle.digraph.specs.calls.Graph.{HasEdge}
use Rattle.digraph.specs.inside.Search.{IsSearch, KeepsMarked, is_unvisited}
use Rattle.digraph.proofs.search.mark_cyclic.Given as goal

abbrev pub invariant-loop-v : goal.invariant-loop-v
invariant-loop-v l = record {
  within : All (λ v. v < length l.marks.items) l.stack.items;
  fewer : count_by is_unvisited l.marks.items ≤ count_by is_unvisited l.initial.marks.items;
  stays : KeepsMarked l.initial.marks.items l.marks.items;
  search : (g : List (List ℕ)) (left : List ℕ) → IsSearch g l.initial.marks.items left l.initial.stack.items →
      All (ReachesCycle (HasEdge g)) l.initial.stack.items → IsSearch g l.marks.items left l.stack.items × All (ReachesCycle (HasEdge g)) l.stack.items;
}

abbrev pub decreases-loop-v : goal.decreases-loop-v
decreases-loop-v l = goal.left-loop-v l
