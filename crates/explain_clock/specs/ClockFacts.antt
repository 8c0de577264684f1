-- What is known of a clock text, and of its activities where a run of its plan has ended.
use Rattle.std.specs.Prelude.{◌≡◌, ℕ, suc, ◌<◌, ◌==◌, ◌&&◌, ◌||◌, not, reverse, Bool, false, List, [], ◌∷◌, ◌++◌, Option, Some, None, count_by, drop, length, slice_get, slice_index_or, take}
use Rattle.armus_base.specs.declared.ending.TaskEnd.{TaskEnd}
use Rattle.armus_base.specs.declared.ending.TaskEnd.TheVariants.{Blocked, Done, Refused, Unforked}
use Rattle.armus_base.specs.declared.op.Op.{Op}
use Rattle.armus_base.specs.declared.op.Op.TheVariants.{Adv, Await, Drop}
use Rattle.armus_base.specs.declared.status.Status.{Status}
use Rattle.armus_base.specs.Finals.{end_of, final_of, list_below}
use Rattle.armus_base.specs.Plans.{Plan, code_of}
use Rattle.armus_base.specs.States.{State}
use Rattle.pl_core.specs.Tasks.{IsAtOp}
use Rattle.clock_syntax.specs.Trees.{ClockTree}
use Rattle.clock_semantics.specs.Unfolding.{ClockUnfolding}
use Rattle.clock_source_map.specs.ClockOffsets.{clock_offsets}
use Rattle.clock_source_map.specs.ClockOrigins.{StartedActivity, MadeThing, all_begun, all_things, all_waits}
use Rattle.clock_source_map.specs.ClockOps.{all_op_origins, is_await}
use Rattle.explain_facts.specs.declared.account.Doing.TheVariants.{Advances, Leaves}
use Rattle.explain_clock.specs.declared.facts.NextMove.{NextMove}

-- where an activity waits: the statement; and for each clock and finish, in order of number, whether it is pending there: the activity has signalled on it, and not
-- waited since; and what the activity does behind its wait, in order
pub record ClockWait : Type 0 where
  pub statement : Option ℕ
  pub pending : List Bool
  pub ahead : List NextMove

-- what is known of the text alone: its bytes, and the name of its file, if it comes from one; the offsets of its statements; and its activities, clocks and
-- finishes, by their numbers
pub record ClockTextValue : Type 0 where
  pub text : List ℕ
  pub file : Option (List ℕ)
  pub offsets : List ℕ
  pub begun : List StartedActivity
  pub things : List MadeThing

-- what is known of the text; how each activity has ended, as its task; the statuses of those that wait; and where each waits
pub record ClockFacts : Type 0 where
  pub of_text : ClockTextValue
  pub ends : List TaskEnd
  pub blocked : List Status
  pub waits : List ClockWait

-- ---- waits

-- of these ops, the last one standing first: the first one that signals on p, waits on it or leaves it, is a signal
abbrev pub is_signalled : ℕ → List Op → Bool
is_signalled p [] = false
is_signalled p (Adv q ∷ ops) = q.0 == p || is_signalled p ops
is_signalled p (Await q off ∷ ops) = not (q.0 == p) && is_signalled p ops
is_signalled p (Drop q ∷ ops) = not (q.0 == p) && is_signalled p ops
is_signalled p (op ∷ ops) = is_signalled p ops

-- behind these ops p is pending
abbrev pub is_pending : List Op → ℕ → Bool
is_pending ops p = is_signalled p (reverse ops)

-- ---- what comes behind a wait

-- what an op does that comes from this statement, where it signals on a clock or finish, or leaves it; the ops at the end of an activity come from none
abbrev pub op_move : Option ℕ → Op → List NextMove
op_move n (Adv p) = record { p = p; does = Advances; statement = n } ∷ []
op_move n (Drop p) = record { p = p; does = Leaves; statement = n } ∷ []
op_move n op = []

-- what these ops do, of which the first has number i, and each comes from the statement with its number
abbrev pub moves_from : List (Option ℕ) → ℕ → List Op → List NextMove
moves_from origins i [] = []
moves_from origins i (op ∷ ops) = op_move (slice_index_or origins i None) op ++ moves_from origins (suc i) ops

-- ---- where one waits

-- An activity with this code and these waits, whose ops come from these statements, of a plan with so many clocks and finishes, waits so, where its task has made
-- so many actions: at the op at which it stands, before which each op that waits is one of its waits. Behind its wait it does what
-- the ops from there on do.
pub record IsWaitOf (code : List Op) (waits : List ℕ) (origins : List (Option ℕ)) (clocks : ℕ) (done : ℕ) (w : ClockWait) : Type 0 where
  pub op : ℕ
  pub stands : IsAtOp code done op
  pub statement_is : w.statement ≡ slice_get waits (count_by is_await (take op code))
  pub pending_is : w.pending ≡ list_below (is_pending (take op code)) clocks
  pub ahead_is : w.ahead ≡ moves_from origins op (drop op code)

-- who does not wait has no statement there, and nothing more is told of it
pub record IsNoWait (w : ClockWait) : Type 0 where
  pub statement_is : w.statement ≡ None
  pub pending_is : w.pending ≡ []
  pub ahead_is : w.ahead ≡ []

-- the same by how its task has ended
abbrev pub IsWaitBy : List Op → List ℕ → List (Option ℕ) → ℕ → ℕ → TaskEnd → ClockWait → Type 0
IsWaitBy code waits origins clocks done (Blocked e) w = IsWaitOf code waits origins clocks done w
IsWaitBy code waits origins clocks done Done w = IsNoWait w
IsWaitBy code waits origins clocks done (Refused e) w = IsNoWait w
IsWaitBy code waits origins clocks done Unforked w = IsNoWait w

-- each activity waits so in this state, where its task has made so many actions
pub record AreWaitsAt (waits : List (List ℕ)) (origins : List (List (Option ℕ))) (plan : Plan) (s : State) (done : ℕ → ℕ) (ws : List ClockWait) : Type 0 where
  pub all : length ws ≡ length plan.parents
  pub each : (t : ℕ) (d : ClockWait) → t < length plan.parents →
      IsWaitBy (code_of plan t) (slice_index_or waits t []) (slice_index_or origins t []) (length plan.makers) (done t) (end_of s t) (slice_index_or ws t d)

-- ---- facts

-- these are the facts of a text, of the file with this name or of none, that is this program, with its unfolding
pub record AreTextFacts (file : Option (List ℕ)) (text : List ℕ) (p : ClockTree) (u : ClockUnfolding) (f : ClockTextValue) : Type 0 where
  pub text_is : f.text ≡ text
  pub file_is : f.file ≡ file
  pub offsets_are : f.offsets ≡ clock_offsets text p
  pub begun_are : f.begun ≡ all_begun u
  pub things_are : f.things ≡ all_things u

-- and these are those where a run of the plan of the unfolding has come to this state
pub record AreClockFacts (file : Option (List ℕ)) (text : List ℕ) (p : ClockTree) (u : ClockUnfolding) (plan : Plan) (s : State) (done : ℕ → ℕ) (f : ClockFacts) : Type 0 where
  pub text_facts : AreTextFacts file text p u f.of_text
  pub ends_are : f.ends ≡ (final_of plan s).ends
  pub blocked_are : f.blocked ≡ (final_of plan s).blocked
  pub waits_are : AreWaitsAt (all_waits u) (all_op_origins u) plan s done f.waits

-- ---- how an activity stands

-- how activity t has ended
abbrev pub end_at : ClockFacts → ℕ → TaskEnd
end_at f t = slice_index_or f.ends t Done

-- what is pending where an activity waits, if there is such an activity
abbrev pub pending_in : Option ClockWait → List Bool
pending_in None = []
pending_in (Some w) = w.pending
