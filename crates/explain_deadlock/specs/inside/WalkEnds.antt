-- What a walk shows, by its path and the task to which it has come.
use Rattle.std.specs.Prelude.{◌≡◌, ◌-◌, List, length, slice_index_or}
use Rattle.armus_base.specs.declared.ids.TaskId.{TaskId}
use Rattle.explain_deadlock.specs.Circles.{IsFirstThrough}
use Rattle.explain_deadlock.specs.declared.outcome.WaitVerdict.{WaitVerdict}
use Rattle.explain_deadlock.specs.declared.outcome.WaitVerdict.TheVariants.{Nobody, Circle, Chain}

-- the verdict shows the first circle through task t
abbrev pub ShowsFirst : (TaskId → TaskId → Type 0) → TaskId → WaitVerdict → Type 0
ShowsFirst R t Nobody = ⊥
ShowsFirst R t (Circle shown) = IsFirstThrough R t shown
ShowsFirst R t (Chain held last) = ⊥

-- the path has come to its end, task t, and the verdict shows the task before it, and it
abbrev pub WalkEndsIn : List TaskId → TaskId → WaitVerdict → Type 0
WalkEndsIn path t Nobody = ⊥
WalkEndsIn path t (Circle shown) = ⊥
WalkEndsIn path t (Chain held last) = ((d : TaskId) → slice_index_or path (length path - 1) d ≡ held) × (last ≡ t)
