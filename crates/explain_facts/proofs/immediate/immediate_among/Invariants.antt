use Rattle.std.proofs.Common.{◌≡◌, suc}
use Rattle.armus_base.specs.Finals.{given_below}
use Rattle.explain_facts.specs.Accounts.{immediate_await}
use Rattle.explain_facts.specs.calls.Known.{kept_layout}
use Rattle.explain_facts.proofs.immediate.immediate_among.Given as goal

abbrev pub invariant-loop-i : goal.invariant-loop-i
invariant-loop-i l = l.all.items ≡ given_below (λ i. immediate_await (kept_layout l.facts) l.facts.program.now l.plan (suc i)) l.i
