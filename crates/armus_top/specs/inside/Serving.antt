-- Which commands are served where.
use Rattle.std.specs.Prelude.{◌≤◌, ℕ}
use Rattle.command_line.specs.declared.command.Command.{Command}
use Rattle.command_line.specs.declared.command.Command.TheVariants.{Check, Run, Avoid, Record, Replay, Gen, Clock, Pool}
use Rattle.command_line.specs.declared.command.RunKind.{RunKind}
use Rattle.command_line.specs.declared.command.RunKind.TheVariants.{Plain, Live, Sites}
use Rattle.armus_base.specs.calls.Limits.{max_sites, max_workers}

-- a number of workers that a run may have
abbrev pub MayWork : ℕ → Type 0
MayWork workers = (1 ≤ workers) × (workers ≤ max_workers)

-- a number of sites that a run may have, where it has sites
abbrev pub MayHaveSites : RunKind → Type 0
MayHaveSites Plain = Unit {0}
MayHaveSites Live = Unit {0}
MayHaveSites (Sites sites) = (1 ≤ sites) × (sites ≤ max_sites)

-- the command waits for no thread, and a run of it may have its workers and its sites
abbrev pub WaitsForNoThread : Command → Type 0
WaitsForNoThread (Check print) = Unit {0}
WaitsForNoThread (Run workers g kind) = MayWork workers × MayHaveSites kind
WaitsForNoThread (Avoid workers g kept) = MayWork workers
WaitsForNoThread (Record workers) = ⊥
WaitsForNoThread Replay = Unit {0}
WaitsForNoThread (Gen count) = Unit {0}
WaitsForNoThread (Clock workers g live) = MayWork workers
WaitsForNoThread (Pool workers g) = ⊥

-- the command waits for threads, and a run of it may have its workers
abbrev pub WaitsForThreads : Command → Type 0
WaitsForThreads (Record workers) = MayWork workers
WaitsForThreads (Pool workers g) = MayWork workers
WaitsForThreads _ = ⊥
