-- A search in breadth from a task, along those for whom tasks wait.
use Rattle.std.specs.Prelude.{◌≡◌, ◌↔◌, ◌⊎◌, ℕ, ◌<◌, Bool, true, false, List, [], ◌∷◌, ◌++◌, Contains, length, slice_index_or}
use Rattle.armus_base.specs.declared.ids.TaskId.{TaskId}
use Rattle.armus_base.specs.Counts.{IsDistinct}
use Rattle.explain_deadlock.specs.declared.circle.Search.{Search}
use Rattle.explain_deadlock.specs.Circles.{IsListedBefore, IsCircleThrough, IsNoLater, LeadsBackTo}

-- some circle goes through task t
abbrev pub HasCircle : (TaskId → TaskId → Type 0) → TaskId → Type 0
HasCircle R t = (circle : List TaskId) × IsCircleThrough R t circle

-- The queue begins with task t, and to each task behind it leads a way: that to its parent, which stands before it, and then the task. A way is without t, with
-- which it begins.
pub record AreWays (t : TaskId) (queue : List TaskId) (parents : List ℕ) (ways : List (List TaskId)) : Type 0 where
  pub some : 0 < length queue
  pub parented : length parents ≡ length queue
  pub led : length ways ≡ length queue
  pub first : slice_index_or queue 0 t ≡ t
  pub none : slice_index_or ways 0 [] ≡ []
  pub before : (k : ℕ) → 0 < k → k < length queue → slice_index_or parents k 0 < k
  pub longer :
      (k : ℕ) → 0 < k → k < length queue →
      slice_index_or ways k [] ≡ slice_index_or ways (slice_index_or parents k 0) [] ++ slice_index_or queue k t ∷ []

-- there are such ways
abbrev pub HasWays : Search → Type 0
HasWays s = (t : TaskId) × (ways : List (List TaskId)) × AreWays t s.queue.items s.parents.items ways

-- The search has looked at the followers of the tasks before place `at`, and at these of the task there.
pub record IsSearched (next : TaskId → List TaskId) (t : TaskId) (at : ℕ) (looked : List TaskId) (queue : List TaskId) (parents : List ℕ) (seen : List Bool) : Type 0 where
  pub ways : List (List TaskId)
  pub are : AreWays t queue parents ways
  pub distinct : IsDistinct queue
  pub inside : (u : TaskId) → Contains queue u → u.0 < length seen
  pub marks : (v : ℕ) → (slice_index_or seen v false ≡ true) ↔ Contains queue (record { 0 = v })
  pub leads :
      (k : ℕ) → k < length queue → (v : TaskId) → Contains (next (slice_index_or queue k t)) v →
      LeadsBackTo (λ a b. Contains (next a) b) v t (slice_index_or ways k [])
  pub ordered : (j k : ℕ) → j < k → k < length queue → IsListedBefore (slice_index_or ways j []) (slice_index_or ways k [])
  pub parent :
      (k : ℕ) → 0 < k → k < length queue →
      (slice_index_or parents k 0 < at) ⊎ ((slice_index_or parents k 0 ≡ at) × Contains looked (slice_index_or queue k t))
  pub covered :
      (k : ℕ) (v : TaskId) → k < length queue → Contains (next (slice_index_or queue k t)) v → (k < at) ⊎ ((k ≡ at) × Contains looked v) →
      (j : ℕ) × (j < length queue) × (slice_index_or queue j t ≡ v) × IsNoLater (slice_index_or ways j []) (slice_index_or ways k [] ++ v ∷ [])
  pub unmet : (k : ℕ) → k < at → k < length queue → Contains (next (slice_index_or queue k t)) t → ⊥

-- the search looks at the followers of the task at place `at`, who are these, and has looked at some of them
pub record IsLooking (next : TaskId → List TaskId) (t : TaskId) (at : ℕ) (followers looked : List TaskId) (s : Search) : Type 0 where
  pub searched : IsSearched next t at looked s.queue.items s.parents.items s.seen.items
  pub inside : at < length s.queue.items
  pub are : next (slice_index_or s.queue.items at t) ≡ followers

-- task u is one of the followers, and has a higher number than those that have been looked at
pub record IsFollower (followers looked : List TaskId) (u : TaskId) : Type 0 where
  pub there : Contains followers u
  pub behind : (v : TaskId) → Contains looked v → v.0 < u.0
