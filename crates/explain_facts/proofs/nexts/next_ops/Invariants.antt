use Rattle.std.proofs.Common.{◌≡◌, None}
use Rattle.std.specs.Prelude.{slice_index_or}
use Rattle.armus_base.specs.Finals.{given_below}
use Rattle.explain_facts.specs.Accounts.{next_op}
use Rattle.explain_facts.specs.calls.Known.{kept_layout}
use Rattle.explain_facts.proofs.nexts.next_ops.Given as goal

abbrev pub invariant-loop-q : goal.invariant-loop-q
invariant-loop-q l = l.all.items ≡ given_below (λ q. next_op (kept_layout l.facts) l.facts.program.now l.t.0 q (slice_index_or l.firsts q None)) l.q
