-- The unfolding of a clock program: what each activity comes to, which moves it makes, and the plan or the first fault.
-- Read from the end: `clock_plan_of` makes a code of each activity's moves, and `clock_unfolded` unfolds the activities in order of number; an activity
-- comes to what its body holds; `clock_act` and the functions above it have the tests of each statement in their order, and what it does.
use Rattle.std.specs.Prelude.{ℕ, zero, suc, ◌+◌, ◌-◌, Bool, true, false, not, ◌&&◌, ◌==◌, if◌then◌else◌, List, [], ◌∷◌, ◌++◌, length, map, slice_get, slice_set, slice_index_or, Option, Some, None, option_to_list, Ok, Err, nat_le, nat_lt}
use Rattle.std.specs.List.{list_any}
use Rattle.std.specs.Str.{bytes_eq}
use Rattle.armus_base.specs.Finals.{given_below}
use Rattle.armus_base.specs.Limits.{max_tasks, max_phasers, max_ops}
use Rattle.armus_base.specs.Pieces.{times}
use Rattle.armus_base.specs.Numbers.{task}
use Rattle.armus_base.specs.Plans.{Plan, straight_plan}
use Rattle.armus_base.specs.declared.ids.TaskId.{TaskId}
use Rattle.clock_syntax.specs.Trees.{ClockPlain, ClockTree, clock, advance, resume, drop, skip, done, plain, async, finish, loop, clock_count}
use Rattle.clock_semantics.specs.Moves.{Move, ActivityStanding, advances, after_move, begins, code_of_moves, drops, ends, no_standing, opens, ops_of, resumes, starts, stops}
use Rattle.pl_plan.specs.Limits.{max_visits}
use Rattle.pl_plan.specs.Unfolding.{Outcome, ◌>>=◌, fault, fault_unless, has_cells}

-- ---- what an activity comes to

-- a statement without a body, an async with its names and body, the beginning of a finish, the end of its body, a loop, or a turn of a loop
pub data ClockPart : Type 0 where
  a_plain : ClockPlain → ClockPart
  an_async : List (List ℕ) → ClockTree → ClockPart
  a_finish : ClockPart
  a_close : ClockPart
  a_loop : ClockPart
  a_turn : ClockPart

-- a coming to this part of the statement with this number
pub record ClockComing : Type 0 where
  pub statement : ℕ
  pub part : ClockPart

-- one coming to statement n
abbrev pub coming : ℕ → ClockPart → ClockComing
coming n part = record { statement = n; part = part }

-- the comings of a list of statements, in order; its first statement has number n
abbrev pub comings_of : ℕ → ClockTree → List ClockComing
comings_of n done = []
comings_of n (plain s rest) = coming n (a_plain s) ∷ comings_of (n + 1) rest
comings_of n (async xs body rest) = coming n (an_async xs body) ∷ comings_of (n + 1 + clock_count body) rest
comings_of n (finish body rest) =
    coming n a_finish ∷ (comings_of (n + 1) body ++ (coming n a_close ∷ comings_of (n + 1 + clock_count body) rest))
comings_of n (loop k body rest) =
    coming n a_loop ∷ (times k (coming n a_turn ∷ comings_of (n + 1) body) ++ comings_of (n + 1 + clock_count body) rest)

-- ---- states

-- the number of the clock for which each name stands, if it does
abbrev pub ClockNames : Type 0
ClockNames = List ℕ → Option ℕ

-- what is known of the activity that is unfolded: its names, how it stands, and the finishes that govern it, the innermost first
pub record Current : Type 0 where
  pub names : ClockNames
  pub standing : ActivityStanding
  pub governing : List ℕ

-- with what an activity is started: the body, the number of its first statement, and what is known of it before its first move
pub record ClockStart : Type 0 where
  pub body : ClockTree
  pub first : ℕ
  pub known : Current

-- The activities so far, with who started each, the moves that each has made, and with what it is started; the clocks and finishes so far, with who made
-- each; what is known of the current activity; and how many ops and visits there were.
pub record ClockUnfolding : Type 0 where
  pub parents : List (Option TaskId)
  pub makers : List TaskId
  pub moves : List (List Move)
  pub starts : List ClockStart
  pub now : Current
  pub ops : ℕ
  pub visits : ℕ

-- ---- the kinds of faults

-- a name that stands for no clock
abbrev pub unknown_clock : ℕ
unknown_clock = 1

-- a clock on which the activity is not registered
abbrev pub not_registered : ℕ
not_registered = 2

-- a name that stands earlier in the list of the same async
abbrev pub listed_twice : ℕ
listed_twice = 3

-- a clock that is pending, at an async or a resume
abbrev pub still_pending : ℕ
still_pending = 4

-- no activity more
abbrev pub too_many_activities : ℕ
too_many_activities = 5

-- no clock or finish more
abbrev pub too_many_clocks : ℕ
too_many_clocks = 6

-- no cell more
abbrev pub too_many_clock_cells : ℕ
too_many_clock_cells = 7

-- no op more
abbrev pub too_many_clock_ops : ℕ
too_many_clock_ops = 8

-- no visit more
abbrev pub too_many_clock_visits : ℕ
too_many_clock_visits = 9

-- ---- tests of names

-- a clock is wanted at statement n
abbrev pub as_clock : ℕ → Option ℕ → Outcome ℕ
as_clock n None = Err (fault unknown_clock n)
as_clock n (Some p) = Ok p

-- the clock of name x at statement n, behind these earlier names of the same list: the activity is registered on it; an async and a resume want it idle,
-- which is not pending
unfoldable pub clock_of : Bool → ℕ → List (List ℕ) → List ℕ → Current → Outcome ℕ
clock_of wants_idle n earlier x now = do
  p ← as_clock n (now.names x)
  inside ← fault_unless (now.standing.members p) not_registered n
  once ← fault_unless (not (list_any (bytes_eq x) earlier)) listed_twice n
  idle ← fault_unless (not (wants_idle && now.standing.pending p)) still_pending n
  Ok p

-- the clocks of the names of an async, all tests of a name before those of the next
unfoldable pub clocks_of : ℕ → List (List ℕ) → List (List ℕ) → Current → Outcome (List ℕ)
clocks_of n earlier [] now = Ok []
clocks_of n earlier (x ∷ xs) now = do
  p ← clock_of true n earlier x now
  ps ← clocks_of n (x ∷ earlier) xs now
  Ok (p ∷ ps)

-- ---- moves

-- activity t makes this move
abbrev pub with_move : ℕ → Move → ClockUnfolding → ClockUnfolding
with_move t m s = record s {
  moves = slice_set s.moves t (slice_index_or s.moves t [] ++ m ∷ []);
  now = record s.now { standing = after_move m s.now.standing };
  ops = s.ops + length (ops_of s.now.standing m);
}

-- the test of the number of ops, with those of the move, and then the move of activity t at statement n
unfoldable pub move_at : ℕ → ℕ → Move → ClockUnfolding → Outcome ClockUnfolding
move_at t n m s = do
  room ← fault_unless (nat_le (s.ops + length (ops_of s.now.standing m)) max_ops) too_many_clock_ops n
  Ok (with_move t m s)

-- activity t makes a clock or finish, with the next number
abbrev pub with_clock_made : ℕ → ClockUnfolding → ClockUnfolding
with_clock_made t s = record s { makers = s.makers ++ task t ∷ [] }

-- the name x stands for clock p
abbrev pub naming : List ℕ → ℕ → ClockUnfolding → ClockUnfolding
naming x p s = record s { now = record s.now { names = λ y. if bytes_eq x y then Some p else s.now.names y } }

-- these finishes govern what follows
abbrev pub governed_by : List ℕ → ClockUnfolding → ClockUnfolding
governed_by fs s = record s { now = record s.now { governing = fs } }

-- the innermost finish, if there is one
abbrev pub innermost : List ℕ → Option ℕ
innermost [] = None
innermost (f ∷ fs) = Some f

-- the tests of a clock or finish more, and then the number of it
unfoldable pub next_clock : ℕ → ClockUnfolding → Outcome ℕ
next_clock n s = do
  room ← fault_unless (nat_lt (length s.makers) max_phasers) too_many_clocks n
  cells ← fault_unless (has_cells (length s.parents) (length s.makers + 1)) too_many_clock_cells n
  Ok (length s.makers)

-- the tests of an activity more, and then the number of it
unfoldable pub next_activity : ℕ → ClockUnfolding → Outcome ℕ
next_activity n s = do
  room ← fault_unless (nat_lt (length s.parents) max_tasks) too_many_activities n
  cells ← fault_unless (has_cells (length s.parents + 1) (length s.makers)) too_many_clock_cells n
  Ok (length s.parents)

-- ---- statements

-- activity t does statement n, which has no body
unfoldable pub act_plain : ℕ → ℕ → ClockPlain → ClockUnfolding → Outcome ClockUnfolding
act_plain t n (clock x) s = do
  p ← next_clock n s
  move_at t n (opens p) (naming x p (with_clock_made t s))
act_plain t n (advance x) s = do
  p ← clock_of false n [] x s.now
  move_at t n (advances p) s
act_plain t n (resume x) s = do
  p ← clock_of true n [] x s.now
  move_at t n (resumes p) s
act_plain t n (drop x) s = do
  p ← clock_of false n [] x s.now
  move_at t n (drops p) s
act_plain t n skip s = Ok s

-- how an activity stands that is started on these clocks under this finish: a member of them all, with nothing pending
abbrev pub standing_on : List ℕ → Option ℕ → ActivityStanding
standing_on ps f = record no_standing { members = λ q. list_any (λ p. p == q) (ps ++ option_to_list f) }

-- with what an activity is started at statement n: a copy of the names, these clocks, and the finish that governs the async, if one does
abbrev pub start_at : ℕ → ClockTree → List ℕ → Current → ClockStart
start_at n body ps now = record {
  body = body;
  first = n + 1;
  known = record { names = now.names; standing = standing_on ps (innermost now.governing); governing = option_to_list (innermost now.governing) };
}

-- activity t starts one more
abbrev pub with_activity : ℕ → ClockStart → ClockUnfolding → ClockUnfolding
with_activity t start s = record s { parents = s.parents ++ Some (task t) ∷ []; moves = s.moves ++ [] ∷ []; starts = s.starts ++ start ∷ [] }

-- activity t starts an activity at statement n, on the clocks of these names
unfoldable pub act_async : ℕ → ℕ → List (List ℕ) → ClockTree → ClockUnfolding → Outcome ClockUnfolding
act_async t n xs body s = do
  ps ← clocks_of n [] xs s.now
  c ← next_activity n s
  move_at t n (starts c ps (innermost s.now.governing)) (with_activity t (start_at n body ps s.now) s)

-- activity t begins a finish, which governs its body
unfoldable pub act_finish : ℕ → ℕ → ClockUnfolding → Outcome ClockUnfolding
act_finish t n s = do
  f ← next_clock n s
  move_at t n (begins f) (governed_by (f ∷ s.now.governing) (with_clock_made t s))

-- activity t ends the innermost of these finishes, whose body is done
unfoldable pub act_close : ℕ → ℕ → List ℕ → ClockUnfolding → Outcome ClockUnfolding
act_close t n [] s = Ok s
act_close t n (f ∷ fs) s = move_at t n (ends f) (governed_by fs s)

-- what activity t does where it comes to a part of statement n; a loop and its turns do nothing of their own
abbrev pub clock_act : ℕ → ℕ → ClockPart → ClockUnfolding → Outcome ClockUnfolding
clock_act t n (a_plain p) s = act_plain t n p s
clock_act t n (an_async xs body) s = act_async t n xs body s
clock_act t n a_finish s = act_finish t n s
clock_act t n a_close s = act_close t n s.now.governing s
clock_act t n a_loop s = Ok s
clock_act t n a_turn s = Ok s

-- the test of the number of visits, and one more
unfoldable pub count_clock_visit : ℕ → ClockUnfolding → Outcome ClockUnfolding
count_clock_visit n s = do
  room ← fault_unless (nat_lt s.visits max_visits) too_many_clock_visits n
  Ok (record s { visits = s.visits + 1 })

-- each coming is a visit but that to the end of a finish
abbrev pub counted_coming : ℕ → ClockPart → ClockUnfolding → Outcome ClockUnfolding
counted_coming n a_close s = Ok s
counted_coming n part s = count_clock_visit n s

-- a coming of activity t
abbrev pub come : ℕ → ClockComing → ClockUnfolding → Outcome ClockUnfolding
come t m s = counted_coming m.statement m.part s >>= clock_act t m.statement m.part

-- comings one after the other, up to the first fault
unfoldable pub come_all : ℕ → List ClockComing → ClockUnfolding → Outcome ClockUnfolding
come_all t [] s = Ok s
come_all t (m ∷ ms) s = come t m s >>= come_all t ms

-- ---- activities

-- what is known of the activity that begins
abbrev pub with_known : Current → ClockUnfolding → ClockUnfolding
with_known known s = record s { now = known }

-- the members among the numbers below n, in order
abbrev pub numbers_of : (ℕ → Bool) → ℕ → List ℕ
numbers_of members n = given_below (λ p. if members p then Some p else None) n

-- activity t stops; n is the statement of its async, or 0 for activity 0
unfoldable pub stop : ℕ → ℕ → ClockUnfolding → Outcome ClockUnfolding
stop t n s = move_at t n (stops (numbers_of s.now.standing.members (length s.makers))) s

-- activity t from its start to its end
abbrev pub unfold_activity : ℕ → ClockStart → ClockUnfolding → Outcome ClockUnfolding
unfold_activity t start s = come_all t (comings_of start.first start.body) (with_known start.known s) >>= stop t (start.first - 1)

-- activity t, if there is one
abbrev pub unfold_started : ℕ → Option ClockStart → ClockUnfolding → Outcome ClockUnfolding
unfold_started t None s = Ok s
unfold_started t (Some start) s = unfold_activity t start s

-- the activities from number t on, in order, of which there are at most n
unfoldable pub unfold_activities : ℕ → ℕ → ClockUnfolding → Outcome ClockUnfolding
unfold_activities zero t s = Ok s
unfold_activities (suc n) t s = unfold_started t (slice_get s.starts t) s >>= unfold_activities n (t + 1)

-- with no names, registered on nothing, and governed by no finish
abbrev pub nothing_known : Current
nothing_known = record { names = λ x. None; standing = no_standing; governing = [] }

-- before the first visit: activity 0 alone, with the whole program
abbrev pub clock_opening : ClockTree → ClockUnfolding
clock_opening p = record {
  parents = None ∷ [];
  makers = [];
  moves = [] ∷ [];
  starts = record { body = p; first = 1; known = nothing_known } ∷ [];
  now = nothing_known;
  ops = 0;
  visits = 0;
}

-- the unfolding of a program, or its first fault
unfoldable pub clock_unfolded : ClockTree → Outcome ClockUnfolding
clock_unfolded p = unfold_activities max_tasks 0 (clock_opening p)

-- how many activities there are
abbrev pub activities : ClockUnfolding → ℕ
activities s = length s.parents

-- ---- plans

-- the plan of an unfolding: a task for each activity, with the code of its moves, one piece for each op, and a phaser for each clock and finish
abbrev pub plan_of_moves : ClockUnfolding → Plan
plan_of_moves s = straight_plan s.parents s.makers (map code_of_moves s.moves)

-- the plan of a program, or its first fault
unfoldable pub clock_plan_of : ClockTree → Outcome Plan
clock_plan_of p = clock_unfolded p >>= λ s. Ok (plan_of_moves s)
