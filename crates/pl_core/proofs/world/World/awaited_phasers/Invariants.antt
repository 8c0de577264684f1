use Rattle.std.proofs.Common.{◌≡◌, ◌<◌, ℕ, length}
use Rattle.armus_base.specs.Finals.{is_event_of}
use Rattle.armus_base.specs.Places.{some_before}
use Rattle.armus_base.specs.calls.StatusLists.{is_marked}
use Rattle.pl_core.specs.inside.Supposed.{with_also}
use Rattle.pl_core.specs.calls.Worlds.{state_of}
use Rattle.pl_core.proofs.world.World.awaited_phasers.Given as goal

abbrev pub invariant-loop-t : goal.invariant-loop-t
invariant-loop-t l =
    record {
      len : length l.asked.items ≡ length l.self.plan.makers;
      asked : (p : ℕ) → p < length l.asked.items → is_marked l.asked.items p ≡ some_before (λ u. is_event_of p ((with_also (state_of l.self) l.also).published u)) l.t;
    }
