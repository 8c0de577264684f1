-- What a graph of events has while it grows, and when it is whole.
use Rattle.std.specs.Prelude.{◌≡◌, ◌↔◌, ◌⊎◌, ℕ, ◌*◌, ◌+◌, ◌≤◌, ◌<◌, List, length, AllPairs, Contains, Bool, true, false, slice_index, slice_index_or}
use Rattle.armus_base.specs.Counts.{IsCount}
use Rattle.digraph.specs.calls.Graph.{HasEdge}
use Rattle.dep_state.specs.calls.Deps.{Deps, IsAwaitedBy, impeders_of}
use Rattle.state_graph.specs.calls.StateEdges.{IsStatePair}

-- the state graph over the first k tasks has n edges
abbrev pub IsStateCount : Deps → ℕ → ℕ → Type 0
IsStateCount d k n = IsCount (λ (p : ℕ × ℕ). IsStatePair d k p.0 p.1) n

-- over the first k tasks, for each k below m, the state graph has at most 2 k edges
abbrev pub StaysSmallBelow : Deps → ℕ → Type 0
StaysSmallBelow d m = (k n : ℕ) → k < m → IsStateCount d k n → n ≤ 2 * k

-- of a row the first n are below k, and the one after them is not
pub record IsFirstFrom (row : List ℕ) (k n : ℕ) : Type 0 where
  pub within : n ≤ length row
  pub before : (m : ℕ) → m < n → slice_index row m < k
  pub after : n < length row → k ≤ slice_index row n

-- an edge goes from an awaited event to what one of the tasks that impede it awaits, of as many as were passed
abbrev pub IsPassedPair : Deps → List Bool → List ℕ → ℕ → ℕ → Type 0
IsPassedPair d seen next i j = (slice_index_or seen i false ≡ true) × ((m : ℕ) × (m < slice_index next i) × (j ≡ slice_index d.awaits (slice_index (impeders_of d i) m)))

-- of the tasks that impede an awaited event, the one at t is the next to be passed
abbrev pub IsNextAt : Deps → List Bool → List ℕ → ℕ → ℕ → Type 0
IsNextAt d seen next t e = (slice_index_or seen e false ≡ true) × (slice_index next e < length (impeders_of d e)) × (slice_index (impeders_of d e) (slice_index next e) ≡ t)

-- a row for each event, and one for each task
pub record AreSized (d : Deps) (edges : List (List ℕ)) (seen : List Bool) (next : List ℕ) (waiting : List (List ℕ)) : Type 0 where
  pub nodes : length edges ≡ length d.events
  pub flags : length seen ≡ length d.events
  pub places : length next ≡ length d.events
  pub tasks : length waiting ≡ length d.tasks

-- the first k tasks were added: which events were awaited, how many of those that impede each were passed, and at which task each goes on
pub record IsGrown (d : Deps) (k : ℕ) (edges : List (List ℕ)) (seen : List Bool) (next : List ℕ) (waiting : List (List ℕ)) : Type 0 where
  pub sized : AreSized d edges seen next waiting
  pub awaited : (i : ℕ) → (slice_index_or seen i false ≡ true) ↔ IsAwaitedBy d k i
  pub fresh : (i : ℕ) → slice_index_or seen i false ≡ false → slice_index next i ≡ 0
  pub passed : (i : ℕ) → slice_index_or seen i false ≡ true → IsFirstFrom (impeders_of d i) k (slice_index next i)
  pub pairs : (i j : ℕ) → HasEdge edges i j ↔ IsPassedPair d seen next i j
  pub waits : (t e : ℕ) → k ≤ t → HasEdge waiting t e ↔ IsNextAt d seen next t e

-- no more of a row is passed than the tasks up to k
pub record IsPassedUpTo (row : List ℕ) (k n : ℕ) : Type 0 where
  pub within : n ≤ length row
  pub before : (m : ℕ) → m < n → slice_index row m ≤ k

-- the task at k is being added: the events of a list are still to be followed
pub record IsGrowing (d : Deps) (k : ℕ) (left : List ℕ) (edges : List (List ℕ)) (seen : List Bool) (next : List ℕ) (waiting : List (List ℕ)) : Type 0 where
  pub sized : AreSized d edges seen next waiting
  pub awaited : (i : ℕ) → (slice_index_or seen i false ≡ true) ↔ IsAwaitedBy d (k + 1) i
  pub fresh : (i : ℕ) → slice_index_or seen i false ≡ false → slice_index next i ≡ 0
  pub known : (e : ℕ) → Contains left e → slice_index_or seen e false ≡ true
  pub passed :
      (i : ℕ) → slice_index_or seen i false ≡ true →
      (Contains left i × IsPassedUpTo (impeders_of d i) k (slice_index next i)) ⊎ IsFirstFrom (impeders_of d i) (k + 1) (slice_index next i)
  pub pairs : (i j : ℕ) → HasEdge edges i j ↔ IsPassedPair d seen next i j
  pub waits : (t e : ℕ) → k < t → HasEdge waiting t e → IsNextAt d seen next t e
  pub left_or_waits : (t e : ℕ) → k < t → IsNextAt d seen next t e → Contains left e ⊎ HasEdge waiting t e

-- from a place on, the tasks of a row up to k were passed
pub record IsPassing (row : List ℕ) (k from at : ℕ) : Type 0 where
  pub onward : from ≤ at
  pub within : at ≤ length row
  pub below : (m : ℕ) → from ≤ m → m < at → slice_index row m ≤ k
  pub after : at < length row → k < slice_index row at

-- an edge goes from the event to what a task of its row awaits, from one place of the row to another
abbrev pub IsPairBetween : Deps → ℕ → ℕ → ℕ → ℕ → ℕ → Type 0
IsPairBetween d event from at i j = (i ≡ event) × ((m : ℕ) × (from ≤ m) × (m < at) × (j ≡ slice_index d.awaits (slice_index (impeders_of d event) m)))

-- the tasks that impede each event ascend
abbrev pub RowsAscend : Deps → Type 0
RowsAscend d = (i : ℕ) → AllPairs (λ j k. j < k) (impeders_of d i)

-- the answers at the first n places of a list
pub record IsAnswersAt (answers : List Bool) (places : List ℕ) (n : ℕ) (ats : List Bool) : Type 0 where
  pub sized : length ats ≡ n
  pub each : (k : ℕ) → k < n → slice_index_or ats k false ≡ slice_index_or answers (slice_index places k) false

-- a graph on all events with all pairs
pub record IsWhole (d : Deps) (edges : List (List ℕ)) : Type 0 where
  pub nodes : length edges ≡ length d.events
  pub pairs : (i j : ℕ) → HasEdge edges i j ↔ IsStatePair d (length d.tasks) i j
