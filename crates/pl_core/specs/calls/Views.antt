-- How contracts see a world.
use Rattle.pl_core.specs.declared.world.World.TheInside.{Inside}
use Rattle.pl_core.specs.calls.Worlds.{WorldValue}
use Rattle.pl_core.specs.calls.Tables.{world_from}

-- its plan, and the places of its tasks
abbrev pub world_of : Inside → WorldValue
world_of w = world_from w.plan.now w.tasks.items
