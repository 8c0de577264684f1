-- What is true of each world.
use Rattle.std.specs.Prelude.{length}
use Rattle.pl_core.specs.declared.world.World.TheInside.{Inside}
use Rattle.pl_core.specs.inside.Cursors.{AreAt}
use Rattle.pl_core.specs.inside.Highest.{AreHighest}
use Rattle.pl_core.specs.inside.Kept.{KeepsState}

-- what it keeps is what the state says, each cursor stands at the next op of its task, and no published task waits beyond the kept highest phases
pub record IsWorld (w : Inside) : Type 0 where
  pub kept : KeepsState w.plan.now w.tasks.items w.phases
  pub cursors : AreAt w.plan.now (length w.plan.now.parents) w.tasks.items w.cursors.items
  pub highest : AreHighest w.tasks.items (length w.plan.now.makers) w.highest.items
