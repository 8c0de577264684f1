use Rattle.std.proofs.Common.{◌≡◌, ◌+◌, length}
use Rattle.explain_facts.specs.inside.Firsts.{AreFirstsBefore}
use Rattle.explain_facts.proofs.nexts.firsts_of.Given as goal

abbrev pub invariant-ops : goal.invariant-ops
invariant-ops l = record {
  numbers : l.at + length l.left ≡ l.i + length l.fn.ops;
  so_far : AreFirstsBefore l.fn.ops l.i l.phasers l.left l.at l.firsts.items;
}

abbrev pub decreases-ops : goal.decreases-ops
decreases-ops l = length l.left
