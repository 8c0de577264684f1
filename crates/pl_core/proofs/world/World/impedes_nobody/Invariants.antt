use Rattle.std.proofs.Common.{◌≡◌, ◌<◌, ◌≤◌, ℕ, Some}
use Rattle.pl_core.specs.inside.Highest.{highest_at}
use Rattle.pl_core.specs.calls.Worlds.{state_of}
use Rattle.pl_core.proofs.world.World.impedes_nobody.Given as goal

abbrev pub invariant-loop-p : goal.invariant-loop-p
invariant-loop-p l =
    (q m : ℕ) → q < l.p → (state_of l.self).phases l.t.0 q ≡ Some m → (highest_at l.self-inside.highest.items q ≤ m) × (l.event.p.0 ≡ q → l.event.n ≤ m)
