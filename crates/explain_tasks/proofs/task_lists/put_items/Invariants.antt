use Rattle.std.proofs.Common.{◌≡◌, ◌++◌, length}
use Rattle.explain_tasks.specs.TaskLists.{item_words, separator}
use Rattle.report.proofs.Texts.{first_texts}
use Rattle.explain_tasks.proofs.task_lists.put_items.Given as goal

abbrev pub invariant-loop-k : goal.invariant-loop-k
invariant-loop-k l = l.out.items ≡ l.initial.out.items ++ first_texts (λ k run. separator (length l.items) k ++ item_words run) l.k l.items
