use Rattle.std.proofs.Common.{◌≡◌, None, replicate}
use Rattle.explain_facts.proofs.nexts.no_firsts.Given as goal

abbrev pub invariant-loop : goal.invariant-loop
invariant-loop l = l.firsts.items ≡ replicate l.counter None
