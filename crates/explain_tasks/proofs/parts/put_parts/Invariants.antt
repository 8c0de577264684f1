use Rattle.std.proofs.Common.{◌≡◌, ◌++◌, length, Vec, Global}
use Rattle.armus_base.specs.declared.ids.TaskId.{TaskId}
use Rattle.explain_tasks.specs.TaskLists.{part_words, separator}
use Rattle.report.proofs.Texts.{first_texts}
use Rattle.explain_tasks.proofs.parts.put_parts.Given as goal

abbrev pub invariant-loop-k : goal.invariant-loop-k
invariant-loop-k l =
    l.out.items ≡ l.initial.out.items ++ first_texts (λ k (part : Vec TaskId Global). separator (length l.parts) k ++ part_words l.names part.items) l.k l.parts
