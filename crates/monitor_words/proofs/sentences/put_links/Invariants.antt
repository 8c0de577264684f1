use Rattle.std.proofs.Common.{◌≡◌, ◌++◌, flat_map, take}
use Rattle.monitor_words.specs.inside.ValueWords.{next_words, placed_words}
use Rattle.monitor_words.proofs.sentences.put_links.Given as goal

abbrev pub invariant-loop-task : goal.invariant-loop-task
invariant-loop-task l = l.out.items ≡ l.initial.out.items ++ flat_map (λ x. placed_words x ++ next_words) (take l.task-index l.tasks)
