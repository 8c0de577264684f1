-- The forks of the tasks by the starts that are kept.
use Rattle.std.specs.Prelude.{ℕ, Option, Some, None}
use Rattle.pl_plan.specs.inside.Checker.{CheckerStart}

-- the statement of a task's fork: the step with its index is the first of the body
abbrev pub kept_fork : Option CheckerStart → Option ℕ
kept_fork None = None
kept_fork (Some kept) = Some kept.first
