-- What the checker keeps.
use Rattle.std.specs.Prelude.{◌≡◌, ℕ, ◌+◌, ◌-◌, ◌<◌, ◌≤◌, Bool, List, [], ◌∷◌, ◌++◌, length, replicate, take, slice_set, slice_index_or, Option, Some, None, if◌then◌else◌, nat_lt}
use Rattle.armus_base.specs.Limits.{max_tasks, max_phasers}
use Rattle.armus_base.specs.declared.ids.TaskId.{TaskId}
use Rattle.armus_base.specs.declared.op.Op.{Op}
use Rattle.pl_plan.specs.calls.MemberRows.{marked}
use Rattle.pl_plan.specs.declared.step.FlatStep.{FlatStep}
use Rattle.pl_plan.specs.inside.Steps.{IsList}
use Rattle.pl_plan.specs.declared.step.Thing.{Thing}
use Rattle.pl_plan.specs.declared.step.Thing.TheVariants.{Nothing, Task, Phaser}

-- with what a task was forked: where its steps begin and end, and its names' things by slot
pub record CheckerStart : Type 0 where
  pub first : ℕ
  pub after : ℕ
  pub things : List Thing

-- what the names stand for: each has a slot from its first assignment on, and slot 0 before; slot 0 has nothing
pub record Bindings : Type 0 where
  pub slots : List ℕ  -- of each name
  pub slot_count : ℕ
  pub things : List Thing  -- in each slot

-- how many ops and visits there were
pub record Counts : Type 0 where
  pub ops : ℕ
  pub visits : ℕ

-- what is kept: the steps; the three lists of the plan; for each task its start and on which phasers it is a member, by number; the names; the counts
pub record Checker : Type 0 where
  pub steps : List FlatStep
  pub parents : List (Option TaskId)
  pub makers : List TaskId
  pub codes : List (List Op)
  pub starts : List (Option CheckerStart)
  pub members : List (List Bool)
  pub bindings : Bindings
  pub counts : Counts

-- the slot of the name with number x, or 0
abbrev pub slot_of : Checker → ℕ → ℕ
slot_of k x = slice_index_or k.bindings.slots x 0

-- what name x stands for
abbrev pub thing_at : Checker → ℕ → Thing
thing_at k x = slice_index_or k.bindings.things (slot_of k x) Nothing

-- the number of a task or phaser is one of so many
abbrev pub IsThingBelow : ℕ → ℕ → Thing → Type 0
IsThingBelow tasks phasers Nothing = Unit {0}
IsThingBelow tasks phasers (Task c) = c.0 < tasks
IsThingBelow tasks phasers (Phaser p) = p.0 < phasers

-- a list of things by slot; behind its end is nothing
pub record IsThings (tasks phasers slot_count : ℕ) (things : List Thing) : Type 0 where
  pub none : slice_index_or things 0 Nothing ≡ Nothing
  pub free : (k : ℕ) → slot_count ≤ k → slice_index_or things k Nothing ≡ Nothing
  pub inside : (k : ℕ) → IsThingBelow tasks phasers (slice_index_or things k Nothing)

-- a start's steps are a list of statements
pub record IsStart (tasks phasers slot_count names : ℕ) (steps : List FlatStep) (start : CheckerStart) : Type 0 where
  pub things : IsThings tasks phasers slot_count start.things
  pub short : length start.things ≤ max_tasks + max_phasers
  pub within : start.after ≤ length steps
  pub list : IsList names steps start.first start.after

-- the same of a task that may have no start
abbrev pub StartFits : ℕ → ℕ → ℕ → ℕ → List FlatStep → Option CheckerStart → Type 0
StartFits tasks phasers slot_count names steps None = Unit {0}
StartFits tasks phasers slot_count names steps (Some start) = IsStart tasks phasers slot_count names steps start

-- slots of a plan with so many tasks and phasers: no two names have one, and there are no more than tasks and phasers
pub record AreSlots (tasks phasers : ℕ) (b : Bindings) : Type 0 where
  pub below : (x : ℕ) → slice_index_or b.slots x 0 < b.slot_count
  pub apart : (x y : ℕ) → slice_index_or b.slots x 0 ≡ slice_index_or b.slots y 0 → 0 < slice_index_or b.slots x 0 → x ≡ y
  pub room : b.slot_count ≤ tasks + phasers
  pub long : length b.things ≡ max_tasks + max_phasers

-- what holds of all that the checker keeps
pub record IsChecker (k : Checker) : Type 0 where
  pub starts_many : length k.starts ≡ length k.parents
  pub codes_many : length k.codes ≡ length k.parents
  pub members_many : length k.members ≡ length k.parents
  pub few : length k.parents ≤ max_tasks
  pub few_makers : length k.makers ≤ max_phasers
  pub slots : AreSlots (length k.parents) (length k.makers) k.bindings
  pub now : IsThings (length k.parents) (length k.makers) k.bindings.slot_count k.bindings.things
  pub later : (c : ℕ) →
      StartFits (length k.parents) (length k.makers) k.bindings.slot_count (length k.bindings.slots) k.steps (slice_index_or k.starts c None)

-- what stays and grows
pub record Keeps (old new : Checker) : Type 0 where
  pub fits : IsChecker new
  pub more : length old.parents ≤ length new.parents
  pub steps : new.steps ≡ old.steps
  pub slots : length new.bindings.slots ≡ length old.bindings.slots

-- ---- changes

-- name x with a slot of its own
abbrev pub with_slot : ℕ → Bindings → Bindings
with_slot x b = record b { slots = slice_set b.slots x b.slot_count; slot_count = b.slot_count + 1 }

-- the slot of name x, if need be a new one
abbrev pub slotted : ℕ → Checker → Checker
slotted x k = if nat_lt 0 (slot_of k x) then k else record k { bindings = with_slot x k.bindings }

-- name x stands for this
abbrev pub with_thing : ℕ → Thing → Checker → Checker
with_thing x v k = record k { bindings = record k.bindings { things = slice_set k.bindings.things (slot_of k x) v } }

-- task t draws a task
abbrev pub with_task : ℕ → Checker → Checker
with_task t k = record k { parents = k.parents ++ Some (record { 0 = t }) ∷ []; codes = k.codes ++ [] ∷ []; starts = k.starts ++ None ∷ []; members = k.members ++ [] ∷ [] }

-- task t makes a phaser
abbrev pub with_maker : ℕ → Checker → Checker
with_maker t k = record k { makers = k.makers ++ record { 0 = t } ∷ [] }

-- task t's code goes on with this op
abbrev pub pushed : ℕ → Op → Checker → Checker
pushed t o k =
    record k { codes = slice_set k.codes t (slice_index_or k.codes t [] ++ o ∷ []); counts = record k.counts { ops = k.counts.ops + 1 } }

-- whether task t is a member of phaser p
abbrev pub with_membership : ℕ → ℕ → Bool → Checker → Checker
with_membership t p v k = record k { members = slice_set k.members t (marked p v (slice_index_or k.members t [])) }

-- task c is forked with these steps and the things in the slots that there are
abbrev pub started : ℕ → ℕ → ℕ → Checker → Checker
started c first after k =
    record k { starts = slice_set k.starts c (Some (record { first = first; after = after; things = take k.bindings.slot_count k.bindings.things })) }

-- as many things as there may be slots
abbrev pub padded : List Thing → List Thing
padded things = things ++ replicate (max_tasks + max_phasers - length things) Nothing

-- a task begins with the things of its start
abbrev pub with_start_things : Option CheckerStart → Checker → Checker
with_start_things None k = k
with_start_things (Some start) k = record k { bindings = record k.bindings { things = padded start.things } }

-- where a start's steps begin and end
abbrev pub range_of : Option CheckerStart → Option (ℕ × ℕ)
range_of None = None
range_of (Some start) = Some (start.first, start.after)
