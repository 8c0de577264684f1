-- Two tasks that wait for each other, as a plan, and the serial avoided run of it.
use Rattle.std.specs.Prelude.{ℕ, List, [], ◌∷◌, Some, None}
use Rattle.armus_base.specs.declared.offset.Offset.TheVariants.{Here}
use Rattle.armus_base.specs.declared.op.Op.TheVariants.{Make, Reg, Fork, Adv, Await}
use Rattle.armus_base.specs.Plans.{Plan, Action, Makes, Registers, Forks, Advances, Drops, Blocks, Passes, Refuses, straight_plan}
use Rattle.armus_base.specs.calls.Plans.{here}
use Rattle.armus_base.specs.States.{Step}
use Rattle.armus_base.specs.calls.Boards.{Entry, Does, Takes, Frees, without_lock}

-- two phasers a and b, of both of which both tasks are members; task 0 advances on a and awaits it, task 1 on b
abbrev pub two_tasks : Plan
two_tasks =
    straight_plan (None ∷ Some (record { 0 = 0 }) ∷ []) (record { 0 = 0 } ∷ record { 0 = 0 } ∷ [])
    ((Make (record { 0 = 0 }) ∷ Make (record { 0 = 1 }) ∷ Reg (record { 0 = 1 }) (record { 0 = 0 })
    ∷ Reg (record { 0 = 1 }) (record { 0 = 1 }) ∷ Fork (record { 0 = 1 }) ∷ Adv (record { 0 = 0 }) ∷ Await (record { 0 = 0 }) Here ∷ [])
    ∷ (Adv (record { 0 = 1 }) ∷ Await (record { 0 = 1 }) Here ∷ [])
    ∷ [])

-- a step of task t
abbrev pub does : ℕ → Action → Step
does t x = record { task = t; action = x }

-- the steps of task 0 before it blocks
abbrev pub before_block : List Step
before_block =
    does 0 (Advances 0) ∷ does 0 (Forks 1) ∷ does 0 (Registers 1 1) ∷ does 0 (Registers 1 0) ∷ does 0 (Makes 1) ∷ does 0 (Makes 0) ∷ []

-- the serial run that avoids deadlock: task 0 blocks, task 1 is refused, and task 0 passes
abbrev pub first_turn : List Step
first_turn =
    does 0 (Blocks (here 0)) ∷ does 0 (Advances 0) ∷ does 0 (Forks 1) ∷ does 0 (Registers 1 1)
    ∷ does 0 (Registers 1 0) ∷ does 0 (Makes 1) ∷ does 0 (Makes 0) ∷ []

-- after the turn of task 1, which is refused
abbrev pub second_turn : List Step
second_turn = does 1 (Drops 1) ∷ does 1 (Drops 0) ∷ does 1 (Refuses (here 1)) ∷ does 1 (Advances 1) ∷ first_turn

-- after all turns
abbrev pub all_turns : List Step
all_turns = does 0 (Passes 0) ∷ second_turn

-- on a board that avoids deadlock task 0 holds the lock before its await
abbrev pub first_holds : List Entry
first_holds = Takes 0 ∷ without_lock before_block

-- it has blocked and freed the lock, and task 1 stands before its await
abbrev pub second_stands : List Entry
second_stands = Does (does 1 (Advances 1)) ∷ Frees 0 ∷ Does (does 0 (Blocks (here 0))) ∷ first_holds

-- and task 1 holds the lock
abbrev pub second_holds : List Entry
second_holds = Takes 1 ∷ second_stands
