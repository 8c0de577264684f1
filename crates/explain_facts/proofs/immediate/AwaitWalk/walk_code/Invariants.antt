use Rattle.std.proofs.Common.{◌≡◌, ◌≤◌, drop, length}
use Rattle.armus_base.specs.Plans.{code_of}
use Rattle.explain_facts.specs.inside.Noted.{HasWalkedTo}
use Rattle.explain_facts.proofs.immediate.AwaitWalk.walk_code.Given as goal

abbrev pub invariant-ops : goal.invariant-ops
invariant-ops l = record {
  left : l.left ≡ drop l.at (code_of l.plan l.t.0);
  within : l.at ≤ length (code_of l.plan l.t.0);
  walked : HasWalkedTo l.facts.program.now l.plan l.t.0 l.at l.self;
}

abbrev pub decreases-ops : goal.decreases-ops
decreases-ops l = length l.left
