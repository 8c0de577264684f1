use Rattle.std.proofs.Common.{◌≡◌, ◌++◌, length}
use Rattle.explain_clock.specs.ActivityLists.{number_item}
use Rattle.explain_tasks.specs.TaskLists.{separator}
use Rattle.report.proofs.Texts.{first_texts}
use Rattle.explain_clock.proofs.activity_lists.put_items.Given as goal

abbrev pub invariant-loop-k : goal.invariant-loop-k
invariant-loop-k l = l.out.items ≡ l.initial.out.items ++ first_texts (λ k run. separator (length l.items) k ++ number_item run) l.k l.items
