use Rattle.std.proofs.Common.{◌≡◌, drop}
use Rattle.explain_facts.proofs.nexts.skip.Given as goal

abbrev pub invariant-loop : goal.invariant-loop
invariant-loop l = l.ops ≡ drop l.counter l.initial.ops
