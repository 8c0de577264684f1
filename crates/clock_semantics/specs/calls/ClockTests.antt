-- The table of tests: which faults a coming may have, in the order in which they are tried; and what a coming does that has none.
use Rattle.std.specs.Prelude.{◌≡◌, ◌↔◌, ℕ, ◌+◌, ◌*◌, ◌<◌, ◌≤◌, Bool, true, false, not, ◌&&◌, ◌||◌, ◌==◌, if◌then◌else◌, is_none, List, [], ◌∷◌, ◌++◌, length, map, option_to_list, unwrap_or, nat_le, nat_lt, Contains, Ok, Err}
use Rattle.std.specs.List.{list_any}
use Rattle.std.specs.Str.{bytes_eq}
use Rattle.clock_syntax.specs.Trees.{advance, clock, drop, resume, skip}
use Rattle.clock_semantics.specs.Moves.{advances, begins, drops, ends, opens, resumes, starts, stops}
use Rattle.clock_semantics.specs.Unfolding.{ClockComing, ClockPart, ClockUnfolding, a_close, a_finish, a_loop, a_plain, a_turn, an_async, come, governed_by, innermost, naming, numbers_of, start_at, stop, with_activity, with_clock_made, with_move}
use Rattle.pl_plan.specs.declared.fault.CheckFault.{CheckFault}

-- ---- what a part is about

-- the names of a statement, without that which a clock is given
abbrev pub names_tested : ClockPart → List (List ℕ)
names_tested (a_plain (advance x)) = x ∷ []
names_tested (a_plain (resume x)) = x ∷ []
names_tested (a_plain (drop x)) = x ∷ []
names_tested (an_async xs body) = xs
names_tested part = []

-- async and resume want no clock that is pending
abbrev pub wants_idle : ClockPart → Bool
wants_idle (a_plain (resume x)) = true
wants_idle (an_async xs body) = true
wants_idle part = false

-- an async
abbrev pub is_async : ClockPart → Bool
is_async (an_async xs body) = true
is_async part = false

-- a clock, or the beginning of a finish
abbrev pub makes_clock : ClockPart → Bool
makes_clock (a_plain (clock x)) = true
makes_clock a_finish = true
makes_clock part = false

-- the end of a finish
abbrev pub is_close : ClockPart → Bool
is_close a_close = true
is_close part = false

-- the clock for which a name stands, and 0 for none
abbrev pub clock_named : ClockUnfolding → List ℕ → ℕ
clock_named u x = unwrap_or (u.now.names x) 0

-- how many cells there are with the new activity, clock or finish
abbrev pub clock_cells_with : ClockUnfolding → ClockPart → ℕ
clock_cells_with u (an_async xs body) = (length u.parents + 1) * (length u.makers + 1)
clock_cells_with u part = length u.parents * (length u.makers + 1 + 1)

-- the ops of the end of the innermost of these finishes, if there is one
abbrev pub ops_of_end : List ℕ → ℕ
ops_of_end [] = 0
ops_of_end (f ∷ fs) = 3

-- how many ops a part adds: a registration for each name and for the finish that governs, and a fork; a signal unless one is pending, and a wait
abbrev pub ops_with : ClockUnfolding → ClockPart → ℕ
ops_with u (a_plain (clock x)) = 1
ops_with u (a_plain (advance x)) = if u.now.standing.pending (clock_named u x) then 1 else 2
ops_with u (a_plain (resume x)) = 1
ops_with u (a_plain (drop x)) = 1
ops_with u (an_async xs body) = length xs + (length (option_to_list (innermost u.now.governing)) + 1)
ops_with u a_finish = 1
ops_with u a_close = ops_of_end u.now.governing
ops_with u part = 0

-- ---- the table

-- a row of the table: the kind of the fault, and whether it is one where the unfolding is this
pub record ClockRow : Type 0 where
  pub kind : ℕ
  pub fails : ClockUnfolding → Bool

abbrev clock_row : ℕ → (ClockUnfolding → Bool) → ClockRow
clock_row kind fails = record { kind = kind; fails = fails }

-- all but the end of a finish: this visit is number 4,194,305
abbrev pub no_clock_visit_left : ClockPart → ClockRow
no_clock_visit_left part = clock_row 9 (λ u. not (is_close part) && not (nat_lt u.visits 4194304))

-- a name behind these of the same list: it is unknown; the activity is not registered on its clock; it stands earlier; its clock is pending, where none may be
abbrev pub name_rows : Bool → List (List ℕ) → List ℕ → List ClockRow
name_rows idle earlier x =
    clock_row 1 (λ u. is_none (u.now.names x))
    ∷ clock_row 2 (λ u. not (u.now.standing.members (clock_named u x)))
    ∷ clock_row 3 (λ u. list_any (bytes_eq x) earlier)
    ∷ clock_row 4 (λ u. idle && u.now.standing.pending (clock_named u x))
    ∷ []

-- the rows of names, one name after the other
abbrev pub names_rows : Bool → List (List ℕ) → List (List ℕ) → List ClockRow
names_rows idle earlier [] = []
names_rows idle earlier (x ∷ xs) = name_rows idle earlier x ++ names_rows idle (x ∷ earlier) xs

-- async: 4,096 activities are there
abbrev pub no_activity_left : ClockPart → ClockRow
no_activity_left part = clock_row 5 (λ u. is_async part && not (nat_lt (length u.parents) 4096))

-- clock, finish: 1,024 clocks and finishes are there
abbrev pub no_clock_left : ClockPart → ClockRow
no_clock_left part = clock_row 6 (λ u. makes_clock part && not (nat_lt (length u.makers) 1024))

-- async, clock, finish: the cells, with the new one counted, are more than 1,048,576
abbrev pub no_clock_cell_left : ClockPart → ClockRow
no_clock_cell_left part = clock_row 7 (λ u. (is_async part || makes_clock part) && not (nat_le (clock_cells_with u part) 1048576))

-- one of the ops that the part adds finds 1,048,576 ops there
abbrev pub no_clock_op_left : ClockPart → ClockRow
no_clock_op_left part = clock_row 8 (λ u. not (ops_with u part == 0) && not (nat_le (u.ops + ops_with u part) 1048576))

-- the rows of a part, in the order in which they are tried
abbrev pub clock_table : ClockPart → List ClockRow
clock_table part =
    no_clock_visit_left part
    ∷ (names_rows (wants_idle part) [] (names_tested part)
    ++ (no_activity_left part ∷ no_clock_left part ∷ no_clock_cell_left part ∷ no_clock_op_left part ∷ []))

-- no row is at fault
abbrev pub PassesClockTable : List ClockRow → ClockUnfolding → Type 0
PassesClockTable rows u = (r : ClockRow) → Contains rows r → r.fails u ≡ false

-- the first row at fault is of this kind
pub record IsFirstClockFault (rows : List ClockRow) (u : ClockUnfolding) (kind : ℕ) : Type 0 where
  pub before : List ClockRow
  pub failing : ClockRow
  pub after : List ClockRow
  pub of_table : rows ≡ before ++ (failing ∷ after)
  pub passed : PassesClockTable before u
  pub fails : failing.fails u ≡ true
  pub kind_is : failing.kind ≡ kind

-- ---- what a coming does

-- activity t ends the innermost of these finishes, if there is one
abbrev pub after_end : ℕ → List ℕ → ClockUnfolding → ClockUnfolding
after_end t [] u = u
after_end t (f ∷ fs) u = with_move t (ends f) (governed_by fs u)

-- what activity t does at a part of statement n, where no test fails
abbrev pub clock_done : ℕ → ℕ → ClockPart → ClockUnfolding → ClockUnfolding
clock_done t n (a_plain (clock x)) u = with_move t (opens (length u.makers)) (naming x (length u.makers) (with_clock_made t u))
clock_done t n (a_plain (advance x)) u = with_move t (advances (clock_named u x)) u
clock_done t n (a_plain (resume x)) u = with_move t (resumes (clock_named u x)) u
clock_done t n (a_plain (drop x)) u = with_move t (drops (clock_named u x)) u
clock_done t n (a_plain skip) u = u
clock_done t n (an_async xs body) u =
    let ps = map (clock_named u) xs in
    with_move t (starts (length u.parents) ps (innermost u.now.governing)) (with_activity t (start_at n body ps u.now) u)
clock_done t n a_finish u = with_move t (begins (length u.makers)) (governed_by (length u.makers ∷ u.now.governing) (with_clock_made t u))
clock_done t n a_close u = after_end t u.now.governing u
clock_done t n a_loop u = u
clock_done t n a_turn u = u

-- one visit more, but for the end of a finish
abbrev pub visited : ClockPart → ClockUnfolding → ClockUnfolding
visited part u = record u { visits = if is_close part then u.visits else u.visits + 1 }

-- ---- the laws

-- a coming answers an unfolding exactly where no row is at fault: with what the part does
abbrev pub ComesByTable : Type 0
ComesByTable =
    (t : ℕ) (m : ClockComing) (u w : ClockUnfolding) →
    (come t m u ≡ Ok w) ↔ (PassesClockTable (clock_table m.part) u × w ≡ clock_done t m.statement m.part (visited m.part u))

-- and a fault exactly where one is: the first one, at the statement
abbrev pub FaultsByTable : Type 0
FaultsByTable =
    (t : ℕ) (m : ClockComing) (u : ClockUnfolding) (f : CheckFault) →
    (come t m u ≡ Err f) ↔ (f.statement ≡ m.statement × IsFirstClockFault (clock_table m.part) u f.kind)

-- what an activity leaves at its end: the clocks and finishes of which it is a member, in order of number
abbrev pub left_at_end : ClockUnfolding → List ℕ
left_at_end u = numbers_of u.now.standing.members (length u.makers)

-- an end answers an unfolding exactly where there is room for an op for each of them
abbrev pub StopsWithRoom : Type 0
StopsWithRoom =
    (t n : ℕ) (u w : ClockUnfolding) → (stop t n u ≡ Ok w) ↔ (u.ops + length (left_at_end u) ≤ 1048576 × w ≡ with_move t (stops (left_at_end u)) u)

-- and a fault exactly where there is none: one of kind 8, at the statement
abbrev pub StopsWithoutRoom : Type 0
StopsWithoutRoom =
    (t n : ℕ) (u : ClockUnfolding) (f : CheckFault) →
    (stop t n u ≡ Err f) ↔ (1048576 < u.ops + length (left_at_end u) × f.kind ≡ 8 × f.statement ≡ n)
