use Rattle.std.proofs.Common.{◌≡◌, ◌++◌, length}
use Rattle.explain_tasks.specs.TaskLists.{separator}
use Rattle.explain_steps.specs.StepWords.{made_phaser_words}
use Rattle.report.proofs.Texts.{first_texts}
use Rattle.explain_avoid.proofs.refusal.put_phasers.Given as goal

abbrev pub invariant-loop-k : goal.invariant-loop-k
invariant-loop-k l = l.out.items ≡ l.initial.out.items ++ first_texts (λ k q. separator (length l.phasers) k ++ made_phaser_words l.facts.program.now q) l.k l.phasers
