-- The words for the end of a run that avoids deadlock.
use Rattle.std.specs.Prelude.{ℕ, Bool, true, false, List, [], ◌∷◌, ◌++◌, codes, filter, length, slice_index_or}
use Rattle.armus_base.specs.declared.ids.TaskId.{TaskId}
use Rattle.armus_base.specs.Finals.{list_below}
use Rattle.armus_base.specs.States.{Phases}
use Rattle.pl_syntax.specs.Printed.{line}
use Rattle.report.specs.Counts.{counts_of}
use Rattle.report.specs.Lines.{counts_line}
use Rattle.report.specs.declared.standing.Standing.{Standing}
use Rattle.report.specs.declared.standing.Standing.TheVariants.{Dead, Done, Held, Refused, Unforked}
use Rattle.explain_facts.specs.declared.names.GivenNames.{GivenNames}
use Rattle.explain_tasks.specs.Facts.{FactsValue}
use Rattle.explain_tasks.specs.TaskLists.{by_number, tasks_words}
use Rattle.explain_deadlock.specs.Paragraphs.{paragraphs}

-- a task that stands so was refused
abbrev pub was_refused : Standing → Bool
was_refused Done = false
was_refused (Dead e) = false
was_refused (Held e) = false
was_refused (Refused e) = true
was_refused Unforked = false

-- a task that stands so waits
abbrev pub waits_at_the_end : Standing → Bool
waits_at_the_end Done = false
waits_at_the_end (Dead e) = true
waits_at_the_end (Held e) = true
waits_at_the_end (Refused e) = false
waits_at_the_end Unforked = false

-- the tasks that stand so, in order of number
abbrev pub tasks_with : (Standing → Bool) → List Standing → List TaskId
tasks_with test standings =
    filter (λ (t : TaskId). test (slice_index_or standings t.0 Done)) (list_below (λ t. record { 0 = t }) (length standings))

-- who was refused: refused: left and worker (t3)
abbrev pub refused_line : GivenNames → List TaskId → List ℕ
refused_line names [] = line (codes "nobody was refused")
refused_line names (t ∷ rest) = line (codes "refused: " ++ tasks_words names (t ∷ rest))

-- who waits for ever: worker (t5) waits for ever
abbrev pub waiting_line : GivenNames → List TaskId → List ℕ
waiting_line names [] = line (codes "nobody waits for ever")
waiting_line names (t ∷ rest) = line (tasks_words names (t ∷ rest) ++ by_number (length (t ∷ rest)) (codes " waits for ever") (codes " wait for ever"))

-- the list has a task
abbrev pub has_some : List TaskId → Bool
has_some [] = false
has_some (t ∷ rest) = true

-- somebody was refused or waits
abbrev pub somebody_stays : List Standing → Bool
somebody_stays standings = has_some (tasks_with was_refused standings ++ tasks_with waits_at_the_end standings)

-- the whole: how many tasks stand in each way, who was refused, who waits for ever, the paragraphs of the refusals, and those of the tasks that wait or are not
-- forked
abbrev pub avoided_words : FactsValue → (ℕ → Phases) → List ℕ → List ℕ
avoided_words f phases refusals =
    counts_line (counts_of f.standings) ++ refused_line f.account.names (tasks_with was_refused f.standings)
    ++ waiting_line f.account.names (tasks_with waits_at_the_end f.standings) ++ refusals
    ++ paragraphs f phases []
