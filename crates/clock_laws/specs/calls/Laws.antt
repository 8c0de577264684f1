-- Laws of the direct machine: its runs end, each is one of the plan, and all its ends are those of the plan's tasks.
use Rattle.std.specs.Prelude.{◌≡◌, ◌≢◌, ℕ, ◌+◌, ◌*◌, ◌<◌, ◌≤◌, ◌↔◌, true, false, is_some, List, [], ◌∷◌, ◌++◌, length, Some, None, Ok, Contains, sum_by, unwrap_or, slice_get}
use Rattle.armus_base.specs.declared.ending.TaskEnd.{TaskEnd}
use Rattle.armus_base.specs.declared.ending.TaskEnd.TheVariants.{Done, Blocked, Unforked}
use Rattle.armus_base.specs.Deadlocks.{IsHeld}
use Rattle.armus_base.specs.Finals.{end_of}
use Rattle.armus_base.specs.Plans.{Plan, maker_of, parent_of}
use Rattle.armus_base.specs.Runs.{IsFinal, IsPlainRun, state_after}
use Rattle.armus_base.specs.States.{State, Step, event_at}
use Rattle.clock_syntax.specs.Trees.{ClockTree}
use Rattle.clock_semantics.specs.Moves.{Move, advances, begins, ends, opens}
use Rattle.clock_semantics.specs.Unfolding.{ClockUnfolding, activities, clock_unfolded, plan_of_moves}
use Rattle.clock_laws.specs.calls.Direct.{ClockState, IsClockEnd, StandsAs, clock_run, direct_opening}

-- the moves of activity t
abbrev pub moves_of : ClockUnfolding → ℕ → List Move
moves_of u t = unwrap_or (slice_get u.moves t) []

-- p is a clock: some activity makes it
abbrev pub IsClockNumber : ClockUnfolding → ℕ → Type 0
IsClockNumber u p = (t : ℕ) × Contains (moves_of u t) (opens p)

-- f is a finish: some activity begins it
abbrev pub IsFinishNumber : ClockUnfolding → ℕ → Type 0
IsFinishNumber u f = (t : ℕ) × Contains (moves_of u t) (begins f)

-- a run of the direct machine on an unfolding to this state, by the activities of its steps, the last one first
abbrev pub IsDirectRun : ClockUnfolding → List ℕ → ClockState → Type 0
IsDirectRun u ts s = clock_run (activities u) (direct_opening (moves_of u)) ts ≡ Some s

-- the state in which a run of the direct machine ends that can't go on
pub record IsDirectEnd (u : ClockUnfolding) (s : ClockState) : Type 0 where
  pub steps : List ℕ
  pub run : IsDirectRun u steps s
  pub at_rest : IsClockEnd (activities u) s

-- ---- runs

-- a run has at most two steps for each move
abbrev pub DirectRunsAreBounded : Type 0
DirectRunsAreBounded =
    (p : ClockTree) (u : ClockUnfolding) (ts : List ℕ) (s : ClockState) → clock_unfolded p ≡ Ok u → IsDirectRun u ts s →
    length ts ≤ 2 * sum_by length u.moves

-- each run can be continued until no activity can make a step
abbrev pub DirectRunsEnd : Type 0
DirectRunsEnd =
    (p : ClockTree) (u : ClockUnfolding) (ts : List ℕ) (s : ClockState) → clock_unfolded p ≡ Ok u → IsDirectRun u ts s →
    (more : List ℕ) × (r : ClockState) × IsDirectRun u (more ++ ts) r × IsClockEnd (activities u) r

-- Activity t on clock p: it is registered where its task is a member. Then it is in the second set where its phase is the clock's, and else stands one
-- above; where it remembers a phase, its own is one above that; and where it remembers none, it is in the second set.
pub record AgreesOnClock (s : ClockState) (σ : State) (p t : ℕ) : Type 0 where
  pub registered : s.enrolled p t ≡ is_some (σ.phases t p)
  pub second : (n : ℕ) → σ.phases t p ≡ Some n → s.unsignalled p t ≡ true → n ≡ s.phase p
  pub above : (n : ℕ) → σ.phases t p ≡ Some n → s.unsignalled p t ≡ false → n ≡ s.phase p + 1
  pub remembers : (n k : ℕ) → σ.phases t p ≡ Some n → s.remembered p t ≡ Some k → n ≡ k + 1
  pub forgot : (n : ℕ) → σ.phases t p ≡ Some n → s.remembered p t ≡ None → s.unsignalled p t ≡ true
  pub least : s.enrolled p t ≡ true → (v : ℕ) × s.unsignalled p v ≡ true

-- Activity t on finish f: it is in the open set where its task is a member and did not make the finish; and each member is at phase 0.
pub record AgreesOnFinish (plan : Plan) (s : ClockState) (σ : State) (f t : ℕ) : Type 0 where
  pub waited_for : s.open_set f t ≡ true → is_some (σ.phases t f) ≡ true × t ≢ maker_of plan f
  pub members : is_some (σ.phases t f) ≡ true → t ≢ maker_of plan f → s.open_set f t ≡ true
  pub first : (n : ℕ) → σ.phases t f ≡ Some n → n ≡ 0

-- a run of the plan to these steps stands for a run of the machine to state s: the same are started and forked, and each agrees on each clock and finish
pub record IsMatchedBy (u : ClockUnfolding) (s : ClockState) (h : List Step) : Type 0 where
  pub run : IsPlainRun (plan_of_moves u) h
  pub started : (t : ℕ) → s.started t ≡ (state_after h).forked t
  pub clocks : (p t : ℕ) → IsClockNumber u p → AgreesOnClock s (state_after h) p t
  pub finishes : (f t : ℕ) → IsFinishNumber u f → AgreesOnFinish (plan_of_moves u) s (state_after h) f t

-- each run of the machine has a run of the plan that stands for it
abbrev pub DirectRunsMatch : Type 0
DirectRunsMatch =
    (p : ClockTree) (u : ClockUnfolding) (ts : List ℕ) (s : ClockState) → clock_unfolded p ≡ Ok u → IsDirectRun u ts s → (h : List Step) × IsMatchedBy u s h

-- ---- ends

-- all ends of the machine are alike, and each activity stands at them as its task has ended in the plan's final state
abbrev pub DirectEndsAreThoseOfTasks : Type 0
DirectEndsAreThoseOfTasks =
    (p : ClockTree) (u : ClockUnfolding) (s : ClockState) (σ : State) (t : ℕ) → clock_unfolded p ≡ Ok u → IsDirectEnd u s → IsFinal (plan_of_moves u) σ →
    t < activities u → StandsAs s t (end_of σ t)

-- activity t has ended
abbrev pub HasEndedIn : ClockState → ℕ → Type 0
HasEndedIn s t = s.started t ≡ true × s.left t ≡ []

-- activity t waits at an advance of clock p, and remembers phase k
abbrev pub WaitsAtAdvance : ClockState → ℕ → ℕ → ℕ → Type 0
WaitsAtAdvance s t p k = s.started t ≡ true × ((ms : List Move) × s.left t ≡ advances p ∷ ms) × s.remembered p t ≡ Some k

-- activity t waits at the end of finish f
abbrev pub WaitsAtEnd : ClockState → ℕ → ℕ → Type 0
WaitsAtEnd s t f = s.started t ≡ true × ((ms : List Move) × s.left t ≡ ends f ∷ ms)

-- activity t stands at an end of the machine exactly where its task has ended so
pub record EndsExactly (u : ClockUnfolding) (s : ClockState) (t : ℕ) (x : TaskEnd) : Type 0 where
  pub ended : HasEndedIn s t ↔ x ≡ Done
  pub at_advance : (p k : ℕ) → IsClockNumber u p → WaitsAtAdvance s t p k ↔ x ≡ Blocked (event_at p (k + 1))
  pub at_end : (f : ℕ) → IsFinishNumber u f → WaitsAtEnd s t f ↔ x ≡ Blocked (event_at f 1)
  pub unstarted : s.started t ≡ false ↔ x ≡ Unforked

-- each activity stands exactly so at each end
abbrev pub DirectEndsAreExact : Type 0
DirectEndsAreExact =
    (p : ClockTree) (u : ClockUnfolding) (s : ClockState) (σ : State) (t : ℕ) → clock_unfolded p ≡ Ok u → IsDirectEnd u s → IsFinal (plan_of_moves u) σ →
    t < activities u → EndsExactly u s t (end_of σ t)

-- an activity that some run starts is no unforked task
abbrev pub StartedAreForked : Type 0
StartedAreForked =
    (p : ClockTree) (u : ClockUnfolding) (ts : List ℕ) (s : ClockState) (σ : State) (t : ℕ) → clock_unfolded p ≡ Ok u → IsDirectRun u ts s →
    IsFinal (plan_of_moves u) σ → s.started t ≡ true → end_of σ t ≢ Unforked

-- no task is unforked whose parent is done
abbrev pub NoneIsUnforkedUnderDone : Type 0
NoneIsUnforkedUnderDone =
    (p : ClockTree) (u : ClockUnfolding) (σ : State) (c : ℕ) → clock_unfolded p ≡ Ok u → IsFinal (plan_of_moves u) σ → 0 < c → c < activities u →
    end_of σ (parent_of (plan_of_moves u) c) ≡ Done → end_of σ c ≢ Unforked

-- each blocked task is dead
abbrev pub NoClockTaskIsHeld : Type 0
NoClockTaskIsHeld =
    (p : ClockTree) (u : ClockUnfolding) (σ : State) (t : ℕ) → clock_unfolded p ≡ Ok u → IsFinal (plan_of_moves u) σ → IsHeld σ t → ⊥
