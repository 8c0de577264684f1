-- That what is told of a program without a fault, of where its tasks and phasers come from and of their names, is what would be told of it at a fault.
use Rattle.std.specs.Prelude.{◌≡◌, ◌<◌, ℕ, suc, List, [], None, Some, if◌then◌else◌, length}
use Rattle.pl_syntax.specs.declared.tree.Program.{Program}
use Rattle.pl_plan.specs.Stages.{Stage, StagesLead, all_stages}
use Rattle.pl_plan.specs.Tests.{is_forked}
use Rattle.pl_plan.specs.Unfolding.{UnfoldingState, opening_state}
use Rattle.source_map.specs.Origins.{fork_origin, phaser_origin, statement_in, task_origin, written_statements}
use Rattle.explain_facts.specs.Names.{given_name}
use Rattle.explain_check.specs.Scenes.{Past, drawn_at, forked_at, made_at, named_phaser, named_task}

-- The statement that is told of a task or phaser is that of the last of these stages that drew or made it; the one that is told of a fork is that of the last that
-- forked the task, where one did, and 0 of task 0; and the name that is given there is the one that this stage gave.
pub record TellsAsPast (program : Program) (past : Past) : Type 0 where
  pub drawn : (c : ℕ) → suc c < length past.there.plan.parents → task_origin program (suc c) ≡ Some (drawn_at past (suc c))
  pub made : (p : ℕ) → p < length past.there.plan.makers → phaser_origin program p ≡ Some (made_at past p)
  pub forked : (c : ℕ) → fork_origin program c ≡ (if is_forked past.there c then Some (forked_at past c) else None)
  pub named_so : (c : ℕ) → suc c < length past.there.plan.parents →
      given_name (statement_in (written_statements program.body) (drawn_at past (suc c))) ≡ (named_task past (suc c)).name
  pub called_so : (p : ℕ) → p < length past.there.plan.makers →
      given_name (statement_in (written_statements program.body) (made_at past p)) ≡ (named_phaser past p).name

-- so it is behind all stages of a program
abbrev pub OriginsAreThoseOfScenes : Type 0
OriginsAreThoseOfScenes =
    (program : Program) (stages : List Stage) (end : UnfoldingState) → StagesLead program.two [] stages (opening_state program.body) end → all_stages program.two end ≡ stages →
    TellsAsPast program (record { first = opening_state program.body; stages = stages; there = end })
