use Rattle.std.proofs.Common.{◌≡◌, None, take}
use Rattle.std.specs.Prelude.{◌==◌}
use Rattle.std.specs.List.{find}
use Rattle.explain_facts.specs.declared.account.NextOp.{NextOp}
use Rattle.explain_tasks.proofs.facts.next_on.Given as goal

abbrev pub invariant-loop-next : goal.invariant-loop-next
invariant-loop-next l = find (λ (x : NextOp). x.p.0 == l.p.0) (take l.next-index l.nexts) ≡ None
