-- Laws of the machine on the text: its runs are those of the machine on moves, and so its ends are those of the plan's tasks.
use Rattle.std.specs.Prelude.{◌≡◌, ℕ, ◌+◌, ◌*◌, ◌≤◌, true, List, [], ◌∷◌, ◌++◌, length, Some, Ok}
use Rattle.std.specs.List.{list_any}
use Rattle.std.specs.Str.{bytes_eq}
use Rattle.armus_base.specs.Finals.{end_of}
use Rattle.armus_base.specs.Runs.{IsFinal}
use Rattle.armus_base.specs.States.{State}
use Rattle.clock_syntax.specs.Trees.{ClockPlain, ClockTree, advance, async, clock, done, drop, finish, loop, plain, resume, skip}
use Rattle.clock_semantics.specs.Unfolding.{ClockUnfolding, clock_unfolded, plan_of_moves}
use Rattle.clock_laws.specs.calls.Direct.{ClockState}
use Rattle.clock_laws.specs.calls.Laws.{IsDirectRun}
use Rattle.clock_laws.specs.TextMachine.{Activity, IsAtRest, IsTextEnd, IsTextRun, Made, TextState, fails, is_there, stand_of, text_step}
use Rattle.clock_laws.specs.TextNumbers.{IsActivityIn, IsMadeIn, made_in, number_in}
use Rattle.clock_laws.specs.TextLaws.{EndsAreTold, end_as}

-- ---- runs

-- The machine on moves in state m stands for the machine on the text in state s: the same activities are started, each remembers the same, and each clock and
-- finish has the same phase and the same sets.
pub record IsToldBy (u : ClockUnfolding) (s : TextState) (m : ClockState) : Type 0 where
  pub inside : (a : Activity) → is_there s a ≡ true → IsActivityIn u a
  pub started : (a : Activity) → IsActivityIn u a → is_there s a ≡ m.started (number_in u a)
  pub phase : (p : Made) → IsMadeIn u p → (s.clock_of p).phase ≡ m.phase (made_in u p)
  pub enrolled : (p : Made) (a : Activity) → IsMadeIn u p → IsActivityIn u a →
      list_any (bytes_eq a) (s.clock_of p).enrolled ≡ m.enrolled (made_in u p) (number_in u a)
  pub unsignalled : (p : Made) (a : Activity) → IsMadeIn u p → IsActivityIn u a →
      list_any (bytes_eq a) (s.clock_of p).unsignalled ≡ m.unsignalled (made_in u p) (number_in u a)
  pub open_set : (p : Made) (a : Activity) → IsMadeIn u p → IsActivityIn u a → list_any (bytes_eq a) (s.open_set p) ≡ m.open_set (made_in u p) (number_in u a)
  pub remembers : (p : Made) (a : Activity) → IsMadeIn u p → IsActivityIn u a → (s.acting a).remembers p ≡ m.remembered (made_in u p) (number_in u a)

-- these are the numbers of some of these activities, in the same order
pub data AreSteps (u : ClockUnfolding) : List Activity → List ℕ → Type 0 where
  no_step : AreSteps u [] []
  a_step : {as_before : List Activity} {ts : List ℕ} (a : Activity) → AreSteps u as_before ts → AreSteps u (a ∷ as_before) (number_in u a ∷ ts)
  of_text_alone : {as_before : List Activity} {ts : List ℕ} (a : Activity) → AreSteps u as_before ts → AreSteps u (a ∷ as_before) ts

-- each run of the machine on the text is one of the machine on moves
abbrev pub TextRunsAreDirect : Type 0
TextRunsAreDirect =
    (p : ClockTree) (u : ClockUnfolding) (steps : List Activity) (s : TextState) → clock_unfolded p ≡ Ok u → IsTextRun p steps s →
    (ts : List ℕ) × (m : ClockState) × AreSteps u steps ts × IsDirectRun u ts m × IsToldBy u s m

-- on a program without fault no run comes to a statement at fault
abbrev pub NoRunFails : Type 0
NoRunFails =
    (p : ClockTree) (u : ClockUnfolding) (steps : List Activity) (s : TextState) (a : Activity) (k : ℕ) → clock_unfolded p ≡ Ok u → IsTextRun p steps s →
    text_step a s ≡ fails k → ⊥

-- how many steps a statement without a body takes at most: an advance has a signal and a step behind it
abbrev pub steps_at : ClockPlain → ℕ
steps_at (clock x) = 1
steps_at (advance x) = 2
steps_at (resume x) = 1
steps_at (drop x) = 1
steps_at skip = 1

-- how many steps these statements take at most, those of the activities that they start among them
abbrev pub most_steps : ClockTree → ℕ
most_steps done = 1
most_steps (plain s more) = steps_at s + most_steps more
most_steps (async xs body more) = 2 + most_steps body + most_steps more
most_steps (finish body more) = 2 + most_steps body + most_steps more
most_steps (loop k body more) = 2 + k * (1 + most_steps body) + most_steps more

-- a run has so many steps at most, and one for the end of the first activity
abbrev pub TextRunsAreBounded : Type 0
TextRunsAreBounded =
    (p : ClockTree) (u : ClockUnfolding) (steps : List Activity) (s : TextState) → clock_unfolded p ≡ Ok u → IsTextRun p steps s → length steps ≤ most_steps p + 1

-- each run can be continued until no activity goes
abbrev pub TextRunsEnd : Type 0
TextRunsEnd =
    (p : ClockTree) (u : ClockUnfolding) (steps : List Activity) (s : TextState) → clock_unfolded p ≡ Ok u → IsTextRun p steps s →
    (more : List Activity) × (r : TextState) × IsTextRun p (more ++ steps) r × IsAtRest r

-- the ends of the machine on a program are told so by each final state of its plan
abbrev pub TextEndsAreTold : Type 0
TextEndsAreTold = (p : ClockTree) (u : ClockUnfolding) (σ : State) → clock_unfolded p ≡ Ok u → IsFinal (plan_of_moves u) σ → EndsAreTold p u σ

-- at each end of the machine each activity stands as its task has ended in the plan's final state; so all ends are alike
abbrev pub TextEndsAreThoseOfTasks : Type 0
TextEndsAreThoseOfTasks =
    (p : ClockTree) (u : ClockUnfolding) (s : TextState) (σ : State) (a : Activity) → clock_unfolded p ≡ Ok u → IsTextEnd p s → IsFinal (plan_of_moves u) σ →
    IsActivityIn u a → end_as (made_in u) (stand_of s a) ≡ Some (end_of σ (number_in u a))
