-- The parts of the order that a list of statuses keeps.
use Rattle.std.specs.Prelude.{ℕ, ◌^◌, ◌<◌, List, length, AllPairs, slice_index_or}
use Rattle.armus_base.specs.declared.status.Member.{Member}
use Rattle.armus_base.specs.declared.status.Status.{Status}

-- the phasers of the phases ascend without repeats
abbrev pub IsOrderedPhases : List Member → Type 0
IsOrderedPhases ms = AllPairs (λ c d. c.p.0 < d.p.0) ms

-- the phases of the status are few and in order
abbrev pub HasOrderedPhases : Status → Type 0
HasOrderedPhases s = (length s.phases < 2 ^ 31) × IsOrderedPhases s.phases

-- the tasks of the statuses ascend without repeats
abbrev pub HaveOrderedTasks : List Status → Type 0
HaveOrderedTasks ss = (j k : ℕ) (c d : Status) → j < k → k < length ss → (slice_index_or ss j c).t.0 < (slice_index_or ss k d).t.0
