use Rattle.std.proofs.Common.{◌≡◌, ℕ, ◌+◌, ◌<◌, [], get_or, length}
use Rattle.armus_base.specs.States.{if_published}
use Rattle.armus_base.specs.declared.event.Event.{Event}
use Rattle.pl_core.specs.calls.Worlds.{state_of}
use Rattle.avoider.specs.inside.Waiting.{AreImpeders}
use Rattle.avoider.proofs.waiting.impeder_sets.Given as goal

abbrev pub invariant-loop-awaited : goal.invariant-loop-awaited
invariant-loop-awaited l = record {
  sized : length l.sets.items ≡ l.awaited-index + 1;
  first : get_or l.sets.items 0 [] ≡ [];
  each : (j : ℕ) (f : Event) → j < l.awaited-index →
      AreImpeders (if_published (state_of l.world) l.t.0 l.event) (length l.world.plan.parents) (get_or l.events j f) (get_or l.sets.items (j + 1) []);
}
