use Rattle.std.proofs.Common.{◌≡◌}
use Rattle.tests_runs.proofs.states.take_turns.Given as goal

abbrev pub invariant-loop-letter : goal.invariant-loop-letter
invariant-loop-letter l = record { same : l.places.items ≡ l.world.places; plan : l.world.plan ≡ l.initial.world.plan }
