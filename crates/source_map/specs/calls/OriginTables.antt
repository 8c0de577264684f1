-- What the tables of origins are.
use Rattle.std.specs.Prelude.{◌≡◌, ℕ, List, Option}
use Rattle.pl_syntax.specs.declared.tree.Program.{Program}
use Rattle.pl_plan.specs.Forks.{fork_statements}
use Rattle.pl_plan.specs.Unfolding.{Coming}
use Rattle.source_map.specs.Origins.{phaser_origins, task_origins, written_statements}

-- all statements, and the numbers of those that fork tasks, that make phasers, and that draw the tasks from 1 on
pub record OriginTables : Type 0 where
  pub statements : List Coming
  pub forks : List (Option ℕ)
  pub phasers : List ℕ
  pub tasks : List ℕ

-- the tables of this program
pub record AreOrigins (program : Program) (o : OriginTables) : Type 0 where
  pub statements : o.statements ≡ written_statements program.body
  pub forks : o.forks ≡ fork_statements program
  pub phasers : o.phasers ≡ phaser_origins program
  pub tasks : o.tasks ≡ task_origins program
