-- The commands that report the run of their input's plan and nothing beside: `run` without live lines, with sites or without, and `pool`.
use Rattle.std.specs.Prelude.{◌≡◌}
use Rattle.command_line.specs.declared.command.Command.{Command}
use Rattle.command_line.specs.declared.command.Command.TheVariants.{Check, Run, Avoid, Record, Replay, Gen, Clock, Pool}
use Rattle.command_line.specs.declared.command.Graph.{Graph}
use Rattle.command_line.specs.declared.command.RunKind.TheVariants.{Plain, Live, Sites}

-- the command reports the run of its input's plan, by this graph, with any number of workers and of sites
abbrev pub ReportsRun : Graph → Command → Type 0
ReportsRun g (Run workers h Plain) = h ≡ g
ReportsRun g (Run workers h Live) = ⊥
ReportsRun g (Run workers h (Sites sites)) = h ≡ g
ReportsRun g (Pool workers h) = h ≡ g
ReportsRun g (Check print) = ⊥
ReportsRun g (Avoid workers h kept) = ⊥
ReportsRun g (Record workers) = ⊥
ReportsRun g Replay = ⊥
ReportsRun g (Gen count) = ⊥
ReportsRun g (Clock workers h live) = ⊥
