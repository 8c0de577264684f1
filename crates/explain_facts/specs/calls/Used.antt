-- Which phasers the ops of a plan use, as a list.
use Rattle.std.specs.Prelude.{◌≡◌, ℕ, ◌<◌, Bool, false, List, length, slice_index_or}
use Rattle.armus_base.specs.Plans.{Plan}
use Rattle.explain_facts.specs.PhaserUses.{is_used_so}
use Rattle.explain_facts.specs.declared.uses.PhaserUse.{PhaserUse}

-- these marks tell of each phaser of the plan whether an op uses it so
pub record AreUsed (use_so : PhaserUse) (plan : Plan) (marks : List Bool) : Type 0 where
  pub sized : length marks ≡ length plan.makers
  pub each : (q : ℕ) → q < length plan.makers → slice_index_or marks q false ≡ is_used_so use_so plan q
