-- The world of a plan and of what is kept of its tasks.
use Rattle.std.specs.Prelude.{List, map}
use Rattle.pl_core.specs.calls.Worlds.{WorldValue}
use Rattle.armus_base.specs.Plans.{Plan}
use Rattle.pl_core.specs.declared.place.Place.{Place as KeptPlace}
use Rattle.pl_core.specs.declared.task.TaskRecord.{TaskRecord}

-- the places of the tasks
abbrev pub kept_places : List TaskRecord → List KeptPlace
kept_places = map (λ task. task.place)

-- the world of a plan and what is kept of its tasks
abbrev pub world_from : Plan → List TaskRecord → WorldValue
world_from plan tasks = record { plan = plan; places = kept_places tasks }
