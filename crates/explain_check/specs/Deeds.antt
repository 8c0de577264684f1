-- What the stages of an unfolding did, and which was the last that did it.
use Rattle.std.specs.Prelude.{ℕ, ◌==◌, Bool, true, false, ◌&&◌, if◌then◌else◌, List, [], ◌∷◌, length, Option, Some, None}
use Rattle.pl_syntax.specs.Tree.{dereg, new_phaser, new_task}
use Rattle.pl_plan.specs.Unfolding.{Coming, UnfoldingState, a_fork, a_plain}
use Rattle.pl_plan.specs.Tests.{first_thing, of_new_phaser, of_new_task, of_reg, phaser_wanted, task_number}
use Rattle.pl_plan.specs.Stages.{Stage, after_stage, comes}

-- what a stage did, by the state before it
abbrev pub Deed : Type 0
Deed = UnfoldingState → Stage → Bool

-- fork
abbrev pub of_fork : Coming → Bool
of_fork (a_fork x body) = true
of_fork c = false

-- dereg
abbrev pub of_dereg : Coming → Bool
of_dereg (a_plain (dereg x)) = true
of_dereg c = false

-- it drew task c
abbrev pub did_draw : ℕ → Deed
did_draw c s (comes t m) = of_new_task m.coming && (length s.plan.parents == c)
did_draw c s v = false

-- it made phaser p
abbrev pub did_make : ℕ → Deed
did_make p s (comes t m) = of_new_phaser m.coming && (length s.plan.makers == p)
did_make p s v = false

-- it forked task c
abbrev pub did_fork : ℕ → Deed
did_fork c s (comes t m) = of_fork m.coming && (task_number (first_thing s m.coming) == c)
did_fork c s v = false

-- it registered task c at phaser p
abbrev pub did_register : ℕ → ℕ → Deed
did_register c p s (comes t m) = of_reg m.coming && ((task_number (first_thing s m.coming) == c) && (phaser_wanted s m.coming == p))
did_register c p s v = false

-- by it task t left phaser p
abbrev pub did_leave : ℕ → ℕ → Deed
did_leave u p s (comes t m) = of_dereg m.coming && ((t == u) && (phaser_wanted s m.coming == p))
did_leave u p s v = false

-- the second, or else the first
abbrev pub or_else : {A : Type 0} → Option A → Option A → Option A
or_else first None = first
or_else first (Some x) = Some x

-- the last of these stages that did it, where this is the state before them
abbrev pub last_that : Deed → UnfoldingState → List Stage → Option Stage
last_that did s [] = None
last_that did s (v ∷ vs) = or_else (if did s v then Some v else None) (last_that did (after_stage v s) vs)

-- the statement of a stage, and 0 where there is none
abbrev pub stage_statement : Option Stage → ℕ
stage_statement (Some (comes t m)) = m.statement
stage_statement o = 0

-- the name that a stage gave to what it drew or made
abbrev pub name_given : Option Stage → List ℕ
name_given (Some (comes t m)) = given m.coming
  where
    given : Coming → List ℕ
    given (a_plain (new_task x)) = x
    given (a_plain (new_phaser x)) = x
    given c = []
name_given o = []
