use Rattle.std.proofs.Common.{◌≡◌, ◌++◌, ℕ}
use Rattle.report.proofs.Texts.{first_texts}
use Rattle.explain_facts.specs.calls.Known.{kept_layout}
use Rattle.explain_avoid.specs.RefusalWords.{avoided_link_words, member_words}
use Rattle.explain_avoid.specs.inside.SoFar.{StandAt}
use Rattle.explain_avoid.proofs.refusal.put_members.Given as goal

abbrev pub invariant-loop-k : goal.invariant-loop-k
invariant-loop-k l =
    (ops : ℕ → ℕ) → StandAt l.world ops →
    l.out.items ≡ l.initial.out.items ++ first_texts (λ k v. member_words (kept_layout l.facts) l.facts.program.now ops v.0 ++ avoided_link_words k) l.k l.cycle
