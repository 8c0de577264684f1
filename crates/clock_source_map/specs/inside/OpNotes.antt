-- What is noted of the ops of one activity, one after the other.
use Rattle.std.specs.Prelude.{ℕ, Bool, true, false, List, [], ◌∷◌, ◌++◌, Option, Some, None, slice_get}
use Rattle.armus_base.specs.declared.op.Op.{Op}
use Rattle.armus_base.specs.declared.op.Op.TheVariants.{Adv, Fork}
use Rattle.clock_syntax.specs.Trees.{ClockPlain, advance, clock, drop, resume, skip}
use Rattle.clock_semantics.specs.Unfolding.{ClockComing, ClockPart, a_close, a_finish, a_loop, a_plain, a_turn, an_async}
use Rattle.clock_source_map.specs.ClockOrigins.{StartedActivity, comings_by}

-- the ops of which nothing is noted yet, and the origins of those before them
pub record OpNotesValue : Type 0 where
  pub left : List Op
  pub origins : List (Option ℕ)

-- the first of these ops comes from this statement, if there is one
abbrev pub one_noted : Option ℕ → List Op → List (Option ℕ) → OpNotesValue
one_noted n [] os = record { left = []; origins = os }
one_noted n (op ∷ ops) os = record { left = ops; origins = os ++ n ∷ [] }

-- the next op comes from this statement, if one is left
abbrev pub next_noted : Option ℕ → OpNotesValue → OpNotesValue
next_noted n k = one_noted n k.left k.origins

-- behind an op of an advance: the wait, where the op was the signal
abbrev pub wait_noted : ℕ → Option Op → OpNotesValue → OpNotesValue
wait_noted n (Some (Adv p)) k = next_noted (Some n) k
wait_noted n op k = k

-- the op forks
abbrev pub is_fork : Op → Bool
is_fork (Fork c) = true
is_fork op = false

-- these ops, up to the first that forks, come from statement n
abbrev pub start_noted : ℕ → List Op → List (Option ℕ) → OpNotesValue
start_noted n [] os = record { left = []; origins = os }
start_noted n (Fork c ∷ ops) os = record { left = ops; origins = os ++ Some n ∷ [] }
start_noted n (op ∷ ops) os = start_noted n ops (os ++ Some n ∷ [])

-- these ops come from no statement
abbrev pub stop_noted : List Op → List (Option ℕ) → OpNotesValue
stop_noted [] os = record { left = []; origins = os }
stop_noted (op ∷ ops) os = stop_noted ops (os ++ None ∷ [])

-- with the ops of a statement without a body
abbrev pub plain_noted : ℕ → ClockPlain → OpNotesValue → OpNotesValue
plain_noted n (clock x) k = next_noted (Some n) k
plain_noted n (advance x) k = wait_noted n (slice_get k.left 0) (next_noted (Some n) k)
plain_noted n (resume x) k = next_noted (Some n) k
plain_noted n (drop x) k = next_noted (Some n) k
plain_noted n skip k = k

-- with the ops of this part of statement n
abbrev pub part_noted : ℕ → ClockPart → OpNotesValue → OpNotesValue
part_noted n (a_plain s) k = plain_noted n s k
part_noted n (an_async xs body) k = start_noted n k.left k.origins
part_noted n a_finish k = next_noted (Some n) k
part_noted n a_close k = next_noted (Some n) (next_noted (Some n) (next_noted (Some n) k))
part_noted n a_loop k = k
part_noted n a_turn k = k

-- with the ops of these comings
abbrev pub ops_noted : List ClockComing → OpNotesValue → OpNotesValue
ops_noted [] k = k
ops_noted (m ∷ ms) k = ops_noted ms (part_noted m.statement m.part k)

-- with the ops that are left, which come from no statement
abbrev pub all_noted : OpNotesValue → OpNotesValue
all_noted k = stop_noted k.left k.origins

-- what is noted of an activity that is started so and has this code
abbrev pub code_noted : StartedActivity → List Op → OpNotesValue
code_noted b code = all_noted (ops_noted (comings_by b) (record { left = code; origins = [] }))
