-- What the checker of a clock program does, as functions on what it keeps. The unfolding does not name them: laws in proofs/ tie the two.
use Rattle.std.specs.Prelude.{◌≡◌, ℕ, zero, suc, ◌+◌, Bool, true, false, List, [], ◌∷◌, ◌++◌, length, map, slice_get, slice_set, slice_index_or, Option, Some, None, Result, Ok, Err, nat_le, nat_lt}
use Rattle.std.specs.List.{position_or_len}
use Rattle.std.specs.Str.{bytes_eq}
use Rattle.armus_base.specs.Limits.{max_tasks, max_phasers, max_ops}
use Rattle.armus_base.specs.declared.ids.PhaserId.{PhaserId}
use Rattle.armus_base.specs.declared.ids.TaskId.{TaskId}
use Rattle.armus_base.specs.declared.op.Op.{Op}
use Rattle.armus_base.specs.declared.op.Op.TheVariants.{Reg, Fork, Drop}
use Rattle.armus_base.specs.Pieces.{times}
use Rattle.clock_syntax.specs.declared.tree.ClockStmt.{ClockStmt}
use Rattle.clock_syntax.specs.declared.tree.ClockStmt.TheVariants.{Clock, Advance, Resume, Skip, Async, Finish, Loop}
use Rattle.clock_syntax.specs.declared.tree.ClockStmt.TheVariants as statement
use Rattle.clock_syntax.specs.Trees.{ClockPlain, ClockTree, clock, advance, resume, drop, skip}
use Rattle.clock_semantics.specs.Moves.{Move, advances, begins, drops, ends, opens, ops_of, resumes, starts, stops}
use Rattle.clock_semantics.specs.Unfolding.{ClockComing, ClockPart, a_plain, an_async, a_finish, a_close, a_loop, a_turn, Current, as_clock, clock_of, clocks_of, coming, comings_of, innermost, not_registered, numbers_of, too_many_activities, too_many_clock_cells, too_many_clock_ops, too_many_clock_visits, too_many_clocks}
use Rattle.pl_plan.specs.Limits.{max_visits}
use Rattle.pl_plan.specs.calls.MemberRows.{marked}
use Rattle.armus_base.specs.Numbers.{phaser, task}
use Rattle.pl_plan.specs.Unfolding.{Outcome, ◌>>=◌, fault_unless, has_cells}
use Rattle.clock_pl.specs.declared.fault.ClockEnd.{ClockEnd}
use Rattle.clock_pl.specs.declared.fault.ClockEnd.TheVariants as ends_by
use Rattle.clock_pl.specs.declared.fault.ClockFault.{ClockFault}
use Rattle.clock_pl.specs.calls.ClockPlanning.{as_fault}
use Rattle.clock_pl.specs.inside.ClockChecker.{ClockChecker, KeptKnown, KeptStart, clocks_with, current, marked_all, names_with, standing_by_rows}

-- ---- moves

-- what is known after a move
abbrev pub known_after : Move → KeptKnown → KeptKnown
known_after (opens p) k = record k { members = marked p true k.members }
known_after (starts c ps f) k = k
known_after (advances p) k = record k { pending = marked p false k.pending }
known_after (resumes p) k = record k { pending = marked p true k.pending }
known_after (drops p) k = record k { members = marked p false k.members; pending = marked p false k.pending }
known_after (begins f) k = record k { members = marked f true k.members }
known_after (ends f) k = record k { members = marked f false k.members; pending = marked f false k.pending }
known_after (stops ps) k = record k { members = []; pending = [] }

-- the code of the activity goes on with these ops
abbrev pub with_ops : List Op → ClockChecker → ClockChecker
with_ops ops k = record k {
  codes = slice_set k.codes k.activity (slice_index_or k.codes k.activity [] ++ ops);
  counts = record k.counts { ops = k.counts.ops + length ops };
}

-- the test of the number of ops, with these, and then these
unfoldable pub checker_ops : ℕ → List Op → ClockChecker → Outcome ClockChecker
checker_ops n ops k = do
  room ← fault_unless (nat_le (k.counts.ops + length ops) max_ops) too_many_clock_ops n
  Ok (with_ops ops k)

-- what is known of the current activity changes
abbrev pub with_known_changed : KeptKnown → ClockChecker → ClockChecker
with_known_changed now k = record k { known = now }

-- a move at statement n
unfoldable pub checker_move : ℕ → Move → ClockChecker → Outcome ClockChecker
checker_move n m k = checker_ops n (ops_of (standing_by_rows k.known) m) k >>= λ k. Ok (with_known_changed (known_after m k.known) k)

-- ---- statements

-- the current activity makes a clock or finish
abbrev pub with_kept_clock : ClockChecker → ClockChecker
with_kept_clock k = record k { makers = k.makers ++ task k.activity ∷ [] }

-- the name x stands for clock p
abbrev pub with_kept_name : List ℕ → ℕ → ClockChecker → ClockChecker
with_kept_name x p k =
    record k { names = names_with x k.names; known = record k.known { clocks = clocks_with (position_or_len (bytes_eq x) k.names) (phaser p) k.known.clocks } }

-- these finishes govern what follows
abbrev pub with_governing : List PhaserId → ClockChecker → ClockChecker
with_governing fs k = record k { known = record k.known { governing = fs } }

-- the tests of a clock or finish more, and its number
unfoldable pub checker_next_clock : ℕ → ClockChecker → Outcome ℕ
checker_next_clock n k = do
  room ← fault_unless (nat_lt (length k.makers) max_phasers) too_many_clocks n
  cells ← fault_unless (has_cells (length k.parents) (length k.makers + 1)) too_many_clock_cells n
  Ok (length k.makers)

-- the tests of an activity more, and its number
unfoldable pub checker_next_activity : ℕ → ClockChecker → Outcome ℕ
checker_next_activity n k = do
  room ← fault_unless (nat_lt (length k.parents) max_tasks) too_many_activities n
  cells ← fault_unless (has_cells (length k.parents + 1) (length k.makers)) too_many_clock_cells n
  Ok (length k.parents)

-- the clock of name x, on which the activity is registered
abbrev pub registered_clock : ℕ → List ℕ → Current → Outcome ℕ
registered_clock n x now = do
  p ← as_clock n (now.names x)
  inside ← fault_unless (now.standing.members p) not_registered n
  Ok p

-- a clock
unfoldable pub checker_open : ℕ → List ℕ → ClockChecker → Outcome ClockChecker
checker_open n x k = do
  p ← checker_next_clock n k
  checker_move n (opens p) (with_kept_name x p (with_kept_clock k))

-- an advance
unfoldable pub checker_advance : ℕ → List ℕ → ClockChecker → Outcome ClockChecker
checker_advance n x k = do
  p ← clock_of false n [] x (current k)
  checker_move n (advances p) k

-- a resume
unfoldable pub checker_resume : ℕ → List ℕ → ClockChecker → Outcome ClockChecker
checker_resume n x k = do
  p ← clock_of true n [] x (current k)
  checker_move n (resumes p) k

-- a drop
unfoldable pub checker_drop : ℕ → List ℕ → ClockChecker → Outcome ClockChecker
checker_drop n x k = do
  p ← clock_of false n [] x (current k)
  checker_move n (drops p) k

-- a statement without a body
abbrev pub checker_plain : ℕ → ClockPlain → ClockChecker → Outcome ClockChecker
checker_plain n (clock x) k = checker_open n x k
checker_plain n (advance x) k = checker_advance n x k
checker_plain n (resume x) k = checker_resume n x k
checker_plain n (drop x) k = checker_drop n x k
checker_plain n skip k = Ok k

-- the innermost of these finishes, alone
abbrev pub innermost_alone : List PhaserId → List PhaserId
innermost_alone [] = []
innermost_alone (f ∷ fs) = f ∷ []

-- with what an activity is started at statement n, on these clocks
abbrev pub kept_start_at : ℕ → ClockTree → List PhaserId → KeptKnown → KeptStart
kept_start_at n body on now = record {
  body = body;
  before = n;
  known = record { clocks = now.clocks; members = marked_all on []; pending = []; governing = innermost_alone now.governing };
}

-- the current activity starts one more
abbrev pub with_kept_activity : KeptStart → ClockChecker → ClockChecker
with_kept_activity start k = record k {
  parents = k.parents ++ Some (task k.activity) ∷ [];
  codes = k.codes ++ [] ∷ [];
  starts = k.starts ++ start ∷ [];
}

-- the ops of the start of activity c on these
abbrev pub start_ops : TaskId → List PhaserId → List Op
start_ops c on = map (λ p. Reg c p) on ++ Fork c ∷ []

-- the op by which an activity leaves p, if it does
abbrev pub stop_op : ℕ → Bool → List Op
stop_op p true = Drop (phaser p) ∷ []
stop_op p false = []

-- the ops of the end of an activity with these members among the numbers below n
abbrev pub stop_ops : (ℕ → Bool) → ℕ → List Op
stop_ops members n = map (λ p. Drop (phaser p)) (numbers_of members n)

-- an async
unfoldable pub checker_async : ℕ → List (List ℕ) → ClockTree → ClockChecker → Outcome ClockChecker
checker_async n xs body k = do
  ps ← clocks_of n [] xs (current k)
  c ← checker_next_activity n k
  checker_move n (starts c ps (innermost (current k).governing))
      (with_kept_activity (kept_start_at n body (map phaser ps ++ innermost_alone k.known.governing) k.known) k)

-- a finish begins
unfoldable pub checker_finish : ℕ → ClockChecker → Outcome ClockChecker
checker_finish n k = do
  f ← checker_next_clock n k
  checker_move n (begins f) (with_governing (phaser f ∷ k.known.governing) (with_kept_clock k))

-- the innermost of these finishes ends
unfoldable pub checker_close : ℕ → List PhaserId → ClockChecker → Outcome ClockChecker
checker_close n [] k = Ok k
checker_close n (f ∷ fs) k = checker_move n (ends f.0) (with_governing fs k)

-- a part of statement n
abbrev pub checker_part : ℕ → ClockPart → ClockChecker → Outcome ClockChecker
checker_part n (a_plain p) k = checker_plain n p k
checker_part n (an_async xs body) k = checker_async n xs body k
checker_part n a_finish k = checker_finish n k
checker_part n a_close k = checker_close n k.known.governing k
checker_part n a_loop k = Ok k
checker_part n a_turn k = Ok k

-- a visit
unfoldable pub checker_visit : ℕ → ClockChecker → Outcome ClockChecker
checker_visit n k = do
  room ← fault_unless (nat_lt k.counts.visits max_visits) too_many_clock_visits n
  Ok (record k { counts = record k.counts { visits = k.counts.visits + 1 } })

-- each coming is a visit but that to the end of a finish
abbrev pub checker_counted : ℕ → ClockPart → ClockChecker → Outcome ClockChecker
checker_counted n a_close k = Ok k
checker_counted n part k = checker_visit n k

-- a coming
abbrev pub checker_come : ClockComing → ClockChecker → Outcome ClockChecker
checker_come m k = checker_counted m.statement m.part k >>= checker_part m.statement m.part

-- comings one after the other, up to the first fault
unfoldable pub checker_come_all : List ClockComing → ClockChecker → Outcome ClockChecker
checker_come_all [] k = Ok k
checker_come_all (m ∷ ms) k = checker_come m k >>= checker_come_all ms

-- what is done at statement n, after its visit
abbrev pub checker_statement : ℕ → ClockStmt → ClockChecker → Outcome ClockChecker
checker_statement n (Clock x) k = checker_open n x k
checker_statement n (Advance x) k = checker_advance n x k
checker_statement n (Resume x) k = checker_resume n x k
checker_statement n (statement.Drop x) k = checker_drop n x k
checker_statement n Skip k = Ok k
checker_statement n (Async names body) k = checker_async n names body k
checker_statement n (Finish body) k =
    (checker_finish n k >>= checker_come_all (comings_of (n + 1) body)) >>= λ k. checker_close n k.known.governing k
checker_statement n (Loop turns body) k = checker_come_all (times turns (coming n a_turn ∷ comings_of (n + 1) body)) k

-- ---- activities

-- activity t begins with what is known of it
abbrev pub with_activity_begun : ℕ → KeptKnown → ClockChecker → ClockChecker
with_activity_begun t known k = record k { activity = t; known = known }

-- the current activity stops
unfoldable pub checker_stop : ℕ → ClockChecker → Outcome ClockChecker
checker_stop n k = checker_move n (stops (numbers_of (standing_by_rows k.known).members (length k.makers))) k

-- activity t, if there is one, from its start to its end
abbrev pub checker_started : ℕ → Option KeptStart → ClockChecker → Outcome ClockChecker
checker_started t None k = Ok k
checker_started t (Some start) k =
    checker_come_all (comings_of (start.before + 1) start.body) (with_activity_begun t start.known k) >>= checker_stop start.before

-- the activities from number t on, in order, of which there are at most n
unfoldable pub checker_activities : ℕ → ℕ → ClockChecker → Outcome ClockChecker
checker_activities zero t k = Ok k
checker_activities (suc n) t k = checker_started t (slice_get k.starts t) k >>= checker_activities n (t + 1)

-- nothing is known
abbrev pub nothing_kept : KeptKnown
nothing_kept = record { clocks = []; members = []; pending = []; governing = [] }

-- what is kept before the first visit: activity 0 alone, with the whole program
abbrev pub opening_checker : ClockTree → ClockChecker
opening_checker p = record {
  names = [];
  parents = None ∷ [];
  makers = [];
  codes = [] ∷ [];
  starts = record { body = p; before = 0; known = nothing_kept } ∷ [];
  activity = 0;
  known = nothing_kept;
  counts = record { ops = 0; visits = 0 };
}

-- ---- answers

-- what a function returned and left is what this gives, unless memory ran out
abbrev pub GivesClockChecker : {A : Type 0} → Result A ClockEnd → Outcome ClockChecker → ClockChecker → Type 0
GivesClockChecker (Ok _) outcome k = outcome ≡ Ok k
GivesClockChecker (Err (ends_by.Clock f)) outcome k = outcome ≡ Err (as_fault f)
GivesClockChecker (Err ends_by.NoMemory) outcome k = Unit {0}

-- what a function that only reads returned is what this gives
abbrev pub clock_viewed : {A B : Type 0} → (A → B) → Result A ClockFault → Outcome B
clock_viewed view (Ok x) = Ok (view x)
clock_viewed view (Err f) = Err (as_fault f)

-- the same, unless memory ran out
abbrev pub GivesValue : {A B : Type 0} → (A → B) → Result A ClockEnd → Outcome B → Type 0
GivesValue view (Ok x) outcome = outcome ≡ Ok (view x)
GivesValue view (Err (ends_by.Clock f)) outcome = outcome ≡ Err (as_fault f)
GivesValue view (Err ends_by.NoMemory) outcome = Unit {0}
