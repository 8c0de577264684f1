-- Statuses of blocked tasks: which of them impede which events.
use Rattle.std.specs.Prelude.{ℕ, ◌^◌, ◌<◌, List, length, AllPairs, slice_index_or}
use Rattle.armus_base.specs.declared.status.Status.{Status}

-- tasks ascend without repeats, and so do the phasers in each status; there are fewer than 2^31 statuses, each with fewer phases
pub record IsInOrder (ss : List Status) : Type 0 where
  pub tasks : (j k : ℕ) (c d : Status) → j < k → k < length ss → (slice_index_or ss j c).t.0 < (slice_index_or ss k d).t.0
  pub phasers : (k : ℕ) (s : Status) → k < length ss → AllPairs (λ c d. c.p.0 < d.p.0) (slice_index_or ss k s).phases
  pub few : length ss < 2 ^ 31
  pub few_phases : (k : ℕ) (s : Status) → k < length ss → length (slice_index_or ss k s).phases < 2 ^ 31
