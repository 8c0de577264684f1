use Rattle.std.proofs.Common.{◌≡◌}
use Rattle.std.specs.Prelude.{option_map}
use Rattle.armus_base.specs.Finals.{given_below}
use Rattle.pl_core.specs.calls.Worlds.{state_of}
use Rattle.explain_avoid.proofs.refusal.members_of.Given as goal

abbrev pub invariant-loop-q : goal.invariant-loop-q
invariant-loop-q l = l.members.items ≡ given_below (λ q. option_map (λ m. q) ((state_of l.world).phases l.t.0 q)) l.q
