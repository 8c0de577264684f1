use Rattle.std.proofs.Common.{◌<◌, ◌≤◌, length}
use Rattle.std.specs.Prelude.{All}
use Rattle.armus_base.specs.States.{if_published}
use Rattle.pl_core.specs.calls.Worlds.{state_of}
use Rattle.avoider.specs.inside.Waiting.{HavePlaces}
use Rattle.avoider.proofs.waiting.places_if.Given as goal

abbrev pub invariant-loop-u : goal.invariant-loop-u
invariant-loop-u l = record {
  few : length l.events.items ≤ 16;
  places : HavePlaces (if_published (state_of l.world) l.t.0 l.event) l.u l.events.items l.own.items;
  phasers : All (λ e. e.p.0 < length l.world.plan.makers) l.events.items;
}
