-- What the checker of a clock program keeps.
use Rattle.std.specs.Prelude.{ℕ, ◌+◌, ◌-◌, Bool, true, false, List, [], ◌∷◌, ◌++◌, length, map, replicate, slice_set, slice_index_or, Option, Some, None}
use Rattle.std.specs.List.{position}
use Rattle.std.specs.Borrow.{Bor}
use Rattle.std.specs.Str.{bytes_eq}
use Rattle.armus_base.specs.declared.ids.TaskId.{TaskId}
use Rattle.armus_base.specs.declared.ids.PhaserId.{PhaserId}
use Rattle.armus_base.specs.declared.op.Op.{Op}
use Rattle.clock_syntax.specs.Trees.{ClockTree}
use Rattle.clock_semantics.specs.Moves.{ActivityStanding}
use Rattle.clock_semantics.specs.Unfolding.{Current, ClockStart}
use Rattle.indexmap.specs.IndexSet.{insert_key}
use Rattle.pl_plan.specs.calls.MemberRows.{marked}

-- what is known of an activity: the clock of each name, by the name's number; rows of members and of pending clocks, by number; and the finishes that govern
-- it, the innermost first
pub record KeptKnown : Type 0 where
  pub clocks : List (Option PhaserId)
  pub members : List Bool
  pub pending : List Bool
  pub governing : List PhaserId

-- with what an activity is started: its body, how many statements stand before that, and what is known of it
pub record KeptStart : Type 0 where
  pub body : ClockTree
  pub before : ℕ
  pub known : KeptKnown

-- how many ops and visits there were
pub record ClockCounts : Type 0 where
  pub ops : ℕ
  pub visits : ℕ

-- what is kept: the names that have stood for a clock; the three lists of the plan; with what each activity is started; which one is unfolded, and what is
-- known of it; the counts
pub record ClockChecker : Type 0 where
  pub names : List (List ℕ)
  pub parents : List (Option TaskId)
  pub makers : List TaskId
  pub codes : List (List Op)
  pub starts : List KeptStart
  pub activity : ℕ
  pub known : KeptKnown
  pub counts : ClockCounts

-- ---- what it means

-- the names, as their bytes
abbrev pub spelled_names : List (Bor (List ℕ)) → List (List ℕ)
spelled_names keys = map (λ (b : Bor (List ℕ)). b.now) keys

-- the number of a clock, if there is one
abbrev pub clock_number : Option PhaserId → Option ℕ
clock_number None = None
clock_number (Some p) = Some p.0

-- the clock of the name with this number, if it has one
abbrev pub numbered_clock : Option ℕ → List (Option PhaserId) → Option ℕ
numbered_clock None clocks = None
numbered_clock (Some i) clocks = clock_number (slice_index_or clocks i None)

-- the clock of a name
abbrev pub clock_by_name : List (List ℕ) → List (Option PhaserId) → List ℕ → Option ℕ
clock_by_name names clocks x = numbered_clock (position (bytes_eq x) names) clocks

-- how an activity stands by its rows
abbrev pub standing_by_rows : KeptKnown → ActivityStanding
standing_by_rows k = record { members = λ p. slice_index_or k.members p false; pending = λ p. slice_index_or k.pending p false }

-- what is known
abbrev pub current_of : List (List ℕ) → KeptKnown → Current
current_of names k = record { names = clock_by_name names k.clocks; standing = standing_by_rows k; governing = map (λ (p : PhaserId). p.0) k.governing }

-- what is known of the current activity
abbrev pub current : ClockChecker → Current
current k = current_of k.names k.known

-- with what an activity is started
abbrev pub start_kept : List (List ℕ) → KeptStart → ClockStart
start_kept names s = record { body = s.body; first = s.before + 1; known = current_of names s.known }

-- ---- changes

-- a list of at least n clocks
abbrev pub clocks_lengthened : ℕ → List (Option PhaserId) → List (Option PhaserId)
clocks_lengthened n clocks = clocks ++ replicate (n - length clocks) None

-- the name with number i stands for clock p
abbrev pub clocks_with : ℕ → PhaserId → List (Option PhaserId) → List (Option PhaserId)
clocks_with i p clocks = slice_set (clocks_lengthened (i + 1) clocks) i (Some p)

-- a row with these marked
abbrev pub marked_all : List PhaserId → List Bool → List Bool
marked_all [] row = row
marked_all (p ∷ ps) row = marked_all ps (marked p.0 true row)

-- the names with one that may be new
abbrev pub names_with : List ℕ → List (List ℕ) → List (List ℕ)
names_with x names = insert_key bytes_eq names x
