-- The limit of the unfolding: the program's constant.
use Rattle.std.specs.Prelude.{ℕ}
use Rattle.pl_plan.specs.declared.limits.TheConstants.{MAX_VISITS}

-- how many visits an unfolding may have
abbrev pub max_visits : ℕ
max_visits = MAX_VISITS
