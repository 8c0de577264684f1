-- Small runs of the direct machine, with how their activities stand at the end; and runs with a step that cannot be made.
use Rattle.std.specs.Prelude.{◌≡◌, ℕ, ◌+◌, List, [], ◌∷◌, length, Option, Some, None, unwrap_or, slice_get}
use Rattle.armus_base.specs.declared.ending.TaskEnd.{TaskEnd}
use Rattle.armus_base.specs.declared.ending.TaskEnd.TheVariants.{Done, Blocked, Unforked}
use Rattle.armus_base.specs.States.{event_at}
use Rattle.clock_semantics.specs.Moves.{Move, opens, starts, advances, resumes, drops, begins, ends, stops}
use Rattle.clock_laws.specs.calls.Direct.{ClockState, StandsAs, clock_run, clock_step, direct_opening}

-- the moves of the activities, the activities in the order of their steps, the last one first, and how each stands then
pub record RunExample : Type 0 where
  pub moves : List (List Move)
  pub steps : List ℕ
  pub ends : List TaskEnd

-- the run of an example, as far as it goes
abbrev pub run_of_example : List (List Move) → List ℕ → Option ClockState
run_of_example moves steps = clock_run (length moves) (direct_opening (λ t. unwrap_or (slice_get moves t) [])) steps

-- the activities from number t on can make no step, and stand so, each as the next of these ends
abbrev pub StandInOrder : ℕ → ClockState → ℕ → List TaskEnd → Type 0
StandInOrder T s t [] = Unit {0}
StandInOrder T s t (x ∷ xs) = (clock_step T t s ≡ None × StandsAs s t x) × StandInOrder T s (t + 1) xs

-- a run that could be made leads to these ends
abbrev pub LeadsToEnds : ℕ → Option ClockState → List TaskEnd → Type 0
LeadsToEnds T None xs = ⊥
LeadsToEnds T (Some s) xs = StandInOrder T s 0 xs

-- each of these runs leads to its ends
abbrev pub EndSo : List RunExample → Type 0
EndSo [] = Unit {0}
EndSo (e ∷ es) = LeadsToEnds (length e.moves) (run_of_example e.moves e.steps) e.ends × EndSo es

-- none of these runs can be made
abbrev pub AreStuck : List RunExample → Type 0
AreStuck [] = Unit {0}
AreStuck (e ∷ es) = run_of_example e.moves e.steps ≡ None × AreStuck es

-- clock c; finish { async(c) { advance(c); } } drop(c);
abbrev moves_in_deadlock : List (List Move)
moves_in_deadlock =
    (opens 0 ∷ begins 1 ∷ starts 1 (0 ∷ []) (Some 1) ∷ ends 1 ∷ drops 0 ∷ stops [] ∷ []) ∷ (advances 0 ∷ stops (0 ∷ 1 ∷ []) ∷ []) ∷ []

-- clock c; finish { async(c) { advance(c); } drop(c); }
abbrev moves_dropped_in_time : List (List Move)
moves_dropped_in_time =
    (opens 0 ∷ begins 1 ∷ starts 1 (0 ∷ []) (Some 1) ∷ drops 0 ∷ ends 1 ∷ stops [] ∷ []) ∷ (advances 0 ∷ stops (0 ∷ 1 ∷ []) ∷ []) ∷ []

-- clock c; resume(c); advance(c);
abbrev moves_resumed : List (List Move)
moves_resumed = (opens 0 ∷ resumes 0 ∷ advances 0 ∷ stops (0 ∷ []) ∷ []) ∷ []

-- clock c; finish { async(c) { advance(c); } } async() { skip; }
abbrev moves_never_started : List (List Move)
moves_never_started =
    (opens 0 ∷ begins 1 ∷ starts 1 (0 ∷ []) (Some 1) ∷ ends 1 ∷ starts 2 [] None ∷ stops (0 ∷ []) ∷ [])
    ∷ (advances 0 ∷ stops (0 ∷ 1 ∷ []) ∷ []) ∷ (stops [] ∷ []) ∷ []

-- finish { async() { async() { } } }
abbrev moves_of_grandchild : List (List Move)
moves_of_grandchild =
    (begins 0 ∷ starts 1 [] (Some 0) ∷ ends 0 ∷ stops [] ∷ []) ∷ (starts 2 [] (Some 0) ∷ stops (0 ∷ []) ∷ []) ∷ (stops (0 ∷ []) ∷ []) ∷ []

-- clock c; async(c) { advance(c); advance(c); } advance(c);
abbrev moves_of_two_phases : List (List Move)
moves_of_two_phases =
    (opens 0 ∷ starts 1 (0 ∷ []) None ∷ advances 0 ∷ stops (0 ∷ []) ∷ []) ∷ (advances 0 ∷ advances 0 ∷ stops (0 ∷ []) ∷ []) ∷ []

-- runs to their ends
abbrev pub worked_runs : List RunExample
worked_runs =
    record { moves = moves_in_deadlock; steps = 1 ∷ 0 ∷ 0 ∷ 0 ∷ []; ends = Blocked (event_at 1 1) ∷ Blocked (event_at 0 1) ∷ [] }
    ∷ record { moves = moves_dropped_in_time; steps = 0 ∷ 0 ∷ 1 ∷ 1 ∷ 0 ∷ 1 ∷ 0 ∷ 0 ∷ 0 ∷ []; ends = Done ∷ Done ∷ [] }
    ∷ record { moves = moves_resumed; steps = 0 ∷ 0 ∷ 0 ∷ 0 ∷ []; ends = Done ∷ [] }
    ∷ record { moves = moves_never_started; steps = 1 ∷ 0 ∷ 0 ∷ 0 ∷ []; ends = Blocked (event_at 1 1) ∷ Blocked (event_at 0 1) ∷ Unforked ∷ [] }
    ∷ record { moves = moves_of_grandchild; steps = 0 ∷ 0 ∷ 2 ∷ 1 ∷ 1 ∷ 0 ∷ 0 ∷ []; ends = Done ∷ Done ∷ Done ∷ [] }
    ∷ record { moves = moves_of_two_phases; steps = 1 ∷ 1 ∷ 0 ∷ 0 ∷ 1 ∷ 1 ∷ 1 ∷ 0 ∷ 0 ∷ 0 ∷ []; ends = Done ∷ Done ∷ [] }
    ∷ []

-- runs with a step that cannot be made: of an activity that is not started, past an advance and past the end of a finish too early, before a grandchild of
-- the finish has ended, and of an activity that has ended
abbrev pub stuck_runs : List RunExample
stuck_runs =
    record { moves = moves_in_deadlock; steps = 1 ∷ []; ends = [] }
    ∷ record { moves = moves_in_deadlock; steps = 1 ∷ 1 ∷ 0 ∷ 0 ∷ 0 ∷ []; ends = [] }
    ∷ record { moves = moves_in_deadlock; steps = 0 ∷ 0 ∷ 0 ∷ 0 ∷ []; ends = [] }
    ∷ record { moves = moves_of_grandchild; steps = 0 ∷ 1 ∷ 1 ∷ 0 ∷ 0 ∷ []; ends = [] }
    ∷ record { moves = moves_resumed; steps = 0 ∷ 0 ∷ 0 ∷ 0 ∷ 0 ∷ []; ends = [] }
    ∷ []
