-- The limits of a plan and of its runs: the program's constants.
use Rattle.std.specs.Prelude.{ℕ, ◌+◌}
use Rattle.armus_base.specs.Limits.{max_offset, max_ops}
use Rattle.armus_base.specs.declared.run_limits.TheConstants.{MAX_SITES, MAX_WORKERS}

-- no awaited phase is above this
abbrev pub max_awaited : ℕ
max_awaited = max_ops + max_offset

-- how many workers a run may have
abbrev pub max_workers : ℕ
max_workers = MAX_WORKERS

-- how many sites
abbrev pub max_sites : ℕ
max_sites = MAX_SITES
