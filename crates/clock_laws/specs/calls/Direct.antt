-- The direct machine: activities, clocks and finishes, and what each activity does to them. T is the number of activities.
use Rattle.std.specs.Prelude.{◌≡◌, ℕ, ◌+◌, Bool, true, false, not, ◌==◌, ◌&&◌, if◌then◌else◌, nat_lt, List, [], ◌∷◌, Option, Some, None}
use Rattle.std.specs.Option.{option_map}
use Rattle.armus_base.specs.declared.ending.TaskEnd.{TaskEnd}
use Rattle.armus_base.specs.declared.ending.TaskEnd.TheVariants.{Done, Blocked, Unforked}
use Rattle.armus_base.specs.States.{event_at, updated}
use Rattle.armus_base.specs.Places.{some_before}
use Rattle.clock_semantics.specs.Moves.{Move, opens, starts, advances, resumes, drops, begins, ends, stops}

-- a state of the machine; clocks and finishes share one row of numbers
pub record ClockState : Type 0 where
  pub left : ℕ → List Move  -- of an activity: the moves that it has still to make, none where it has ended
  pub started : ℕ → Bool  -- the activities that have been started
  pub phase : ℕ → ℕ  -- of a clock: its phase number
  pub enrolled : ℕ → ℕ → Bool  -- of a clock: its registered activities
  pub unsignalled : ℕ → ℕ → Bool  -- of a clock: those of them that have not signalled in this phase
  pub remembered : ℕ → ℕ → Option ℕ  -- of a clock and an activity: the phase of a signal after which it has not yet waited
  pub open_set : ℕ → ℕ → Bool  -- of a finish: the activities for which it waits

-- before the first step activity 0 alone is started, and there is no clock
abbrev pub direct_opening : (ℕ → List Move) → ClockState
direct_opening moves = record {
  left = moves;
  started = λ t. t == 0;
  phase = λ _. 0;
  enrolled = λ _ _. false;
  unsignalled = λ _ _. false;
  remembered = λ _ _. None;
  open_set = λ _ _. false;
}

-- ---- changes of a state

-- a table with the value v at clock or finish p for activity t
abbrev pub with_entry : {A : Type 0} → (ℕ → ℕ → A) → ℕ → ℕ → A → ℕ → ℕ → A
with_entry f p t v q u = if (q == p) && (u == t) then v else f q u

-- a table with the value v everywhere for activity t
abbrev pub with_column : {A : Type 0} → (ℕ → ℕ → A) → ℕ → A → ℕ → ℕ → A
with_column f t v q u = if u == t then v else f q u

-- activity t has made a move, and has these moves left
abbrev pub going : ℕ → List Move → ClockState → ClockState
going t ms s = record s { left = updated s.left t ms }

-- activity t is in both sets of clock p
abbrev pub enrolling : ℕ → ℕ → ClockState → ClockState
enrolling t p s = record s { enrolled = with_entry s.enrolled p t true; unsignalled = with_entry s.unsignalled p t true }

-- and in those of each of these clocks
abbrev pub enrolling_all : ℕ → List ℕ → ClockState → ClockState
enrolling_all t [] s = s
enrolling_all t (p ∷ ps) s = enrolling_all t ps (enrolling t p s)

-- a new clock has phase 0, and its maker in both sets
abbrev pub opening_clock : ℕ → ℕ → ClockState → ClockState
opening_clock t p s = enrolling t p (record s { phase = updated s.phase p 0 })

-- a signal takes the activity out of the second set, and it remembers the phase
abbrev pub signalling : ℕ → ℕ → ClockState → ClockState
signalling t p s =
    record s { unsignalled = with_entry s.unsignalled p t false; remembered = with_entry s.remembered p t (Some (s.phase p)) }

-- the activity has waited for its signal
abbrev pub forgetting : ℕ → ℕ → ClockState → ClockState
forgetting t p s = record s { remembered = with_entry s.remembered p t None }

-- the activity leaves both sets of the clock
abbrev pub departing : ℕ → ℕ → ClockState → ClockState
departing t p s = record s {
  enrolled = with_entry s.enrolled p t false;
  unsignalled = with_entry s.unsignalled p t false;
  remembered = with_entry s.remembered p t None;
}

-- the activity leaves both sets of every clock, and the open set of every finish
abbrev pub departing_all : ℕ → ClockState → ClockState
departing_all t s = record s {
  enrolled = with_column s.enrolled t false;
  unsignalled = with_column s.unsignalled t false;
  remembered = with_column s.remembered t None;
  open_set = with_column s.open_set t false;
}

-- activity c is in the open set of the finish that governs it, if one does
abbrev pub joining : Option ℕ → ℕ → ClockState → ClockState
joining None c s = s
joining (Some f) c s = record s { open_set = with_entry s.open_set f c true }

-- activity c is started
abbrev pub starting : ℕ → ClockState → ClockState
starting c s = record s { started = updated s.started c true }

-- ---- steps

-- what activity t does at an advance of clock p: it signals, if it remembers no signal; else it goes on as soon as the clock's phase is above the remembered one
abbrev pub advance_of : ℕ → ℕ → List Move → Option ℕ → ClockState → Option ClockState
advance_of t p ms None s = Some (signalling t p s)
advance_of t p ms (Some k) s = if nat_lt k (s.phase p) then Some (going t ms (forgetting t p s)) else None

-- what activity t does that has these moves left, if it can do something
abbrev pub move_of : ℕ → ℕ → List Move → ClockState → Option ClockState
move_of T t [] s = None
move_of T t (opens p ∷ ms) s = Some (going t ms (opening_clock t p s))
move_of T t (starts c ps f ∷ ms) s = Some (going t ms (starting c (joining f c (enrolling_all c ps s))))
move_of T t (advances p ∷ ms) s = advance_of t p ms (s.remembered p t) s
move_of T t (resumes p ∷ ms) s = Some (going t ms (signalling t p s))
move_of T t (drops p ∷ ms) s = Some (going t ms (departing t p s))
move_of T t (begins f ∷ ms) s = Some (going t ms s)
move_of T t (ends f ∷ ms) s = if some_before (s.open_set f) T then None else Some (going t ms s)
move_of T t (stops ps ∷ ms) s = Some (going t ms (departing_all t s))

-- clock p has a registered activity, and each has signalled
abbrev pub is_through : ℕ → ClockState → ℕ → Bool
is_through T s p = some_before (s.enrolled p) T && not (some_before (s.unsignalled p) T)

-- each such clock goes to the next phase, in which none of its activities has signalled
abbrev pub settled : ℕ → ClockState → ClockState
settled T s = record s {
  phase = λ p. if is_through T s p then s.phase p + 1 else s.phase p;
  unsignalled = λ p t. if is_through T s p then s.enrolled p t else s.unsignalled p t;
}

-- a step of activity t, if it is started and can do something; after it the clocks go on
abbrev pub clock_step : ℕ → ℕ → ClockState → Option ClockState
clock_step T t s = if s.started t then option_map (settled T) (move_of T t (s.left t) s) else None

-- a step from a state, if there is one
abbrev pub step_from : ℕ → ℕ → Option ClockState → Option ClockState
step_from T t None = None
step_from T t (Some s) = clock_step T t s

-- the state after steps of these activities, the last one first, if each could make its step
abbrev pub clock_run : ℕ → ClockState → List ℕ → Option ClockState
clock_run T s [] = Some s
clock_run T s (t ∷ ts) = step_from T t (clock_run T s ts)

-- no activity can make a step
abbrev pub IsClockEnd : ℕ → ClockState → Type 0
IsClockEnd T s = (t : ℕ) → clock_step T t s ≡ None

-- how activity t stands that can make no step, as the end of its task: it is not started, or has ended, or waits at an advance of clock p and remembers
-- phase k, or waits at the end of finish f
pub data StandsAs (s : ClockState) (t : ℕ) : TaskEnd → Type 0 where
  unstarted : s.started t ≡ false → StandsAs s t Unforked
  has_ended : s.started t ≡ true → s.left t ≡ [] → StandsAs s t Done
  waits_at_advance :
      (p k : ℕ) (ms : List Move) → s.started t ≡ true → s.left t ≡ advances p ∷ ms → s.remembered p t ≡ Some k → StandsAs s t (Blocked (event_at p (k + 1)))
  waits_at_end : (f : ℕ) (ms : List Move) → s.started t ≡ true → s.left t ≡ ends f ∷ ms → StandsAs s t (Blocked (event_at f 1))
