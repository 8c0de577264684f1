-- The line of the verdict.
use Rattle.std.specs.Prelude.{ℕ, zero, List, [], ◌∷◌, ◌++◌, codes, flat_map, if◌then◌else◌, length}
use Rattle.std.proofs.Common.{suc}
use Rattle.std.specs.List.{enumerate_from}
use Rattle.armus_base.specs.declared.ids.TaskId.{TaskId}
use Rattle.pl_syntax.specs.Printed.{line}
use Rattle.explain_tasks.specs.declared.situation.Situation.{Situation}
use Rattle.explain_tasks.specs.declared.situation.Situation.TheVariants.{HasEnded, NotForkedYet}
use Rattle.explain_deadlock.specs.declared.outcome.WaitVerdict.{WaitVerdict}
use Rattle.explain_deadlock.specs.declared.outcome.WaitVerdict.TheVariants.{Nobody, Circle, Chain}
use Rattle.explain_tasks.specs.Facts.{FactsValue, is_deadlocked, is_waiting, situation_of, tasks_that}
use Rattle.explain_tasks.specs.Places.{end_words, fork_place, named_task, wait_place}

-- a shown task that stands so: worker at 20:7 where it waits, else the task alone
abbrev pub shown_as : FactsValue → ℕ → Situation → List ℕ
shown_as f t s = named_task f t ++ (if is_waiting s then codes " at " ++ wait_place f t else [])

-- a shown task
abbrev pub shown_words : FactsValue → ℕ → List ℕ
shown_words f t = shown_as f t (situation_of f t)

-- what stands between shown task k, which stands so, and the one behind it
abbrev pub link_as : FactsValue → ℕ → ℕ → Situation → List ℕ
link_as f k t NotForkedYet = codes ", to be forked at " ++ fork_place f t ++ codes " by "
link_as f zero t _ = codes " waits for "
link_as f (suc k) t _ = codes ", which waits for "

-- what stands between shown task k and the one behind it
abbrev pub link_words : FactsValue → ℕ → ℕ → List ℕ
link_words f k t = link_as f k t (situation_of f t)

-- shown task k and its link
abbrev pub linked_words : FactsValue → ℕ → TaskId → List ℕ
linked_words f k t = shown_words f t.0 ++ link_words f k t.0

-- the tasks of a circle: one that waits for itself, or each with its link, and the first once more
abbrev pub circle_words : FactsValue → List TaskId → List ℕ
circle_words f [] = []
circle_words f (t ∷ []) = shown_words f t.0 ++ codes " waits for itself"
circle_words f (t ∷ u ∷ rest) = flat_map (λ (k, v). linked_words f k v) (enumerate_from 0 (t ∷ u ∷ rest)) ++ named_task f t.0

-- how the last of a walk stands that does not close
abbrev pub walk_end_words : FactsValue → ℕ → Situation → List ℕ
walk_end_words f t HasEnded = codes ", which ended at " ++ end_words f t
walk_end_words f t _ = codes ", which is never forked"

-- what the verdict says
abbrev pub verdict_words : FactsValue → WaitVerdict → List ℕ
verdict_words f Nobody = codes "nobody waits for ever"
verdict_words f (Circle shown) = circle_words f shown
verdict_words f (Chain held last) = linked_words f 0 held ++ named_task f last.0 ++ walk_end_words f last.0 (situation_of f last.0)

-- with what the verdict begins, where so many tasks are deadlocked
abbrev pub kind_words : ℕ → List ℕ
kind_words zero = codes "waits for ever: "
kind_words (suc n) = codes "deadlock: "

-- with what the verdict begins, if anybody waits
abbrev pub verdict_kind : FactsValue → WaitVerdict → List ℕ
verdict_kind f Nobody = []
verdict_kind f _ = kind_words (length (tasks_that is_deadlocked f))

-- the line of the verdict
abbrev pub verdict_line : FactsValue → WaitVerdict → List ℕ
verdict_line f v = line (verdict_kind f v ++ verdict_words f v)
