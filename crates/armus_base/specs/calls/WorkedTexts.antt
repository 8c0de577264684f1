-- Small kernels as plans, each with a schedule to its end and the value of its final state.
use Rattle.std.specs.Prelude.{◌≡◌, ℕ, List, [], ◌∷◌, ◌++◌, Some, None, Contains, ◌↔◌, replicate}
use Rattle.armus_base.specs.declared.ending.Final.{Final}
use Rattle.armus_base.specs.declared.ending.TaskEnd.{TaskEnd}
use Rattle.armus_base.specs.declared.ending.TaskEnd.TheVariants.{Blocked, Done, Refused, Unforked}
use Rattle.armus_base.specs.declared.offset.Offset.TheVariants.{Ahead, Back, Here}
use Rattle.armus_base.specs.declared.op.Op.{Op}
use Rattle.armus_base.specs.declared.op.Op.TheVariants.{Adv, Await, Drop, Fork, Make, Reg}
use Rattle.armus_base.specs.declared.status.Member.{Member}
use Rattle.armus_base.specs.declared.status.Status.{Status}
use Rattle.armus_base.specs.Deadlocks.{IsDeadIn}
use Rattle.armus_base.specs.Finals.{final_of}
use Rattle.armus_base.specs.Offsets.{target}
use Rattle.armus_base.specs.Numbers.{phaser, task}
use Rattle.armus_base.specs.Plans.{Plan, straight_plan}
use Rattle.armus_base.specs.Runs.{IsMaximal, IsPlainRun, state_after}
use Rattle.armus_base.specs.calls.Serial.{scheduled}
use Rattle.armus_base.specs.States.{event_at}

-- the schedule is a maximal plain run of the plan, the state after it has this value, and just these tasks are dead in it
pub record EndsIn (plan : Plan) (schedule : List ℕ) (final : Final) (dead : List ℕ) : Type 0 where
  pub run : IsPlainRun plan (scheduled plan schedule)
  pub maximal : IsMaximal plan (scheduled plan schedule)
  pub value : final_of plan (state_after (scheduled plan schedule)) ≡ final
  pub dead_tasks : (t : ℕ) → Contains dead t ↔ IsDeadIn (state_after (scheduled plan schedule)) t

-- task c is made a member of phaser p
abbrev reg : ℕ → ℕ → Op
reg c p = Reg (task c) (phaser p)

-- phase n on p
abbrev pub at : ℕ → ℕ → Member
at p n = record { p = phaser p; n = n }

-- a task that waits on p@n
abbrev waits : ℕ → ℕ → TaskEnd
waits p n = Blocked (event_at p n)

-- the status of task t that waits on p@n with these phases
abbrev pub status : ℕ → ℕ → ℕ → List Member → Status
status t p n phases = record { t = task t; event = event_at p n; phases = phases }

abbrev worker : List Op
worker =
    Adv (phaser 0) ∷ Await (phaser 0) Here ∷ Adv (phaser 0) ∷ Await (phaser 0) Here ∷ Adv (phaser 0) ∷ Await (phaser 0) Here ∷ Adv (phaser 0) ∷ Await (phaser 0) Here
    ∷ Drop (phaser 0) ∷ Drop (phaser 1) ∷ []

abbrev starts : ℕ → List Op
starts t = reg t 0 ∷ reg t 1 ∷ Fork (task t) ∷ []

-- three workers average, and their parent never leaves their barrier
abbrev pub averaging : Plan
averaging =
    straight_plan (None ∷ Some (task 0) ∷ Some (task 0) ∷ Some (task 0) ∷ []) (task 0 ∷ task 0 ∷ [])
    ((Make (phaser 0) ∷ Make (phaser 1) ∷ starts 1 ++ starts 2 ++ starts 3 ++ Adv (phaser 1) ∷ Await (phaser 1) Here ∷ [])
    ∷ worker ∷ worker ∷ worker ∷ [])

-- task 0 to where it waits, and then each worker to its first wait
abbrev pub averaging_schedule : List ℕ
averaging_schedule = 3 ∷ 3 ∷ 2 ∷ 2 ∷ 1 ∷ 1 ∷ replicate 13 0

-- averaging by three workers: task 0 waits on p1@1, and each worker on p0@1
abbrev pub averaging_end : Final
averaging_end =
    record {
      ends = waits 1 1 ∷ waits 0 1 ∷ waits 0 1 ∷ waits 0 1 ∷ [];
      blocked =
          status 0 1 1 (at 0 0 ∷ at 1 1 ∷ [])
          ∷ status 1 0 1 (at 0 1 ∷ at 1 0 ∷ [])
          ∷ status 2 0 1 (at 0 1 ∷ at 1 0 ∷ [])
          ∷ status 3 0 1 (at 0 1 ∷ at 1 0 ∷ [])
          ∷ [];
    }

-- each of the two tasks to where it waits
abbrev pub two_tasks_schedule : List ℕ
two_tasks_schedule = 1 ∷ 1 ∷ replicate 7 0

-- the two tasks wait for each other
abbrev pub two_tasks_end : Final
two_tasks_end =
    record {
      ends = waits 0 1 ∷ waits 1 1 ∷ [];
      blocked = status 0 0 1 (at 0 1 ∷ at 1 0 ∷ []) ∷ status 1 1 1 (at 0 0 ∷ at 1 1 ∷ []) ∷ [];
    }

abbrev starts_on_three : ℕ → List Op
starts_on_three t = reg t 0 ∷ reg t 1 ∷ reg t 2 ∷ Fork (task t) ∷ []

abbrev advances_and_waits : ℕ → List Op
advances_and_waits p = Adv (phaser p) ∷ Await (phaser p) Here ∷ []

-- avoided, with one worker: the await of task 1 is refused, and task 0 is done
abbrev pub two_tasks_avoided : Final
two_tasks_avoided = record { ends = Done ∷ Refused (event_at 1 1) ∷ []; blocked = [] }

-- three tasks stand on three phasers, and each advances on one of its own and waits there
abbrev pub three_tasks : Plan
three_tasks =
    straight_plan (None ∷ Some (task 0) ∷ Some (task 0) ∷ Some (task 0) ∷ []) (task 0 ∷ task 0 ∷ task 0 ∷ [])
    ((Make (phaser 0) ∷ Make (phaser 1) ∷ Make (phaser 2) ∷ starts_on_three 1 ++ starts_on_three 2 ++ starts_on_three 3
    ++ Drop (phaser 0) ∷ Drop (phaser 1) ∷ Drop (phaser 2) ∷ [])
    ∷ advances_and_waits 0 ∷ advances_and_waits 1 ∷ advances_and_waits 2 ∷ [])

-- task 0 to its end, and then each of the three
abbrev pub three_tasks_schedule : List ℕ
three_tasks_schedule = 3 ∷ 3 ∷ 2 ∷ 2 ∷ 1 ∷ 1 ∷ replicate 18 0

-- task 0 is done, and each of the three waits for the two others
abbrev pub three_tasks_end : Final
three_tasks_end =
    record {
      ends = Done ∷ waits 0 1 ∷ waits 1 1 ∷ waits 2 1 ∷ [];
      blocked =
          status 1 0 1 (at 0 1 ∷ at 1 0 ∷ at 2 0 ∷ [])
          ∷ status 2 1 1 (at 0 0 ∷ at 1 1 ∷ at 2 0 ∷ [])
          ∷ status 3 2 1 (at 0 0 ∷ at 1 0 ∷ at 2 1 ∷ [])
          ∷ [];
    }

-- two tasks wait for each other, and task 0 waits for one of them
abbrev pub behind_a_cycle : Plan
behind_a_cycle =
    straight_plan (None ∷ Some (task 0) ∷ Some (task 0) ∷ []) (task 0 ∷ task 0 ∷ task 0 ∷ [])
    ((Make (phaser 0) ∷ Make (phaser 1) ∷ Make (phaser 2) ∷ starts_on_three 1 ++ reg 2 0 ∷ reg 2 1 ∷ Fork (task 2)
    ∷ Drop (phaser 0) ∷ Drop (phaser 1) ∷ Adv (phaser 2) ∷ Await (phaser 2) Here ∷ [])
    ∷ advances_and_waits 0 ∷ advances_and_waits 1 ∷ [])

-- each task to where it waits
abbrev pub behind_a_cycle_schedule : List ℕ
behind_a_cycle_schedule = 2 ∷ 2 ∷ 1 ∷ 1 ∷ replicate 14 0

-- all three wait
abbrev pub behind_a_cycle_end : Final
behind_a_cycle_end =
    record {
      ends = waits 2 1 ∷ waits 0 1 ∷ waits 1 1 ∷ [];
      blocked =
          status 0 2 1 (at 2 1 ∷ [])
          ∷ status 1 0 1 (at 0 1 ∷ at 1 0 ∷ at 2 0 ∷ [])
          ∷ status 2 1 1 (at 0 0 ∷ at 1 1 ∷ [])
          ∷ [];
    }

-- a member that ends without leaving
abbrev pub ended_member : Plan
ended_member =
    straight_plan (None ∷ Some (task 0) ∷ []) (task 0 ∷ [])
    ((Make (phaser 0) ∷ reg 1 0 ∷ Fork (task 1) ∷ advances_and_waits 0) ∷ [] ∷ [])

-- task 0 to where it waits
abbrev pub ended_member_schedule : List ℕ
ended_member_schedule = replicate 5 0

-- task 0 waits for the member that has ended
abbrev pub ended_member_end : Final
ended_member_end = record { ends = waits 0 1 ∷ Done ∷ []; blocked = status 0 0 1 (at 0 1 ∷ []) ∷ [] }

-- a member that is never forked
abbrev pub unforked_member : Plan
unforked_member =
    straight_plan (None ∷ Some (task 0) ∷ []) (task 0 ∷ [])
    ((Make (phaser 0) ∷ reg 1 0 ∷ advances_and_waits 0) ∷ [] ∷ [])

-- task 0 to where it waits
abbrev pub unforked_member_schedule : List ℕ
unforked_member_schedule = replicate 4 0

-- task 0 waits for the member that is not forked
abbrev pub unforked_member_end : Final
unforked_member_end = record { ends = waits 0 1 ∷ Unforked ∷ []; blocked = status 0 0 1 (at 0 1 ∷ []) ∷ [] }

-- a task awaits the phase after its own, which no one but itself can bring
abbrev pub awaits_ahead : Plan
awaits_ahead =
    straight_plan (None ∷ []) (task 0 ∷ [])
    ((Make (phaser 0) ∷ Adv (phaser 0) ∷ Await (phaser 0) (Ahead 1) ∷ []) ∷ [])

-- the task to where it waits
abbrev pub awaits_ahead_schedule : List ℕ
awaits_ahead_schedule = replicate 3 0

-- it waits for itself
abbrev pub awaits_ahead_end : Final
awaits_ahead_end = record { ends = waits 0 2 ∷ []; blocked = status 0 0 2 (at 0 1 ∷ []) ∷ [] }

-- a task at phase 3 awaits the phase before its own; a member at phase 1 keeps it waiting
abbrev pub looks_back : Plan
looks_back =
    straight_plan (None ∷ Some (task 0) ∷ []) (task 0 ∷ [])
    ((Make (phaser 0) ∷ Adv (phaser 0) ∷ reg 1 0 ∷ Adv (phaser 0) ∷ Adv (phaser 0) ∷ Await (phaser 0) (Back 1) ∷ []) ∷ [] ∷ [])

-- task 0 to where it waits
abbrev pub looks_back_schedule : List ℕ
looks_back_schedule = replicate 6 0

-- it waits for phase 2
abbrev pub looks_back_end : Final
looks_back_end = record { ends = waits 0 2 ∷ Unforked ∷ []; blocked = status 0 0 2 (at 0 3 ∷ []) ∷ [] }

-- what an await aims at, in numbers
pub record Targets : Type 0 where
  pub own : target Here 3 ≡ 3
  pub back : target (Back 2) 3 ≡ 1
  pub no_farther_back : target (Back 5) 3 ≡ 0
  pub ahead : target (Ahead 2) 3 ≡ 5
