-- The verdict on a clock text: nobody waits for ever, or these activities wait for one another.
use Rattle.std.specs.Prelude.{◌≡◌, ℕ, zero, ◌⊎◌, Bool, true, false, List, [], ◌∷◌, ◌++◌, Option, Some, None, codes, flat_map}
use Rattle.std.proofs.Common.{suc}
use Rattle.std.specs.List.{enumerate_from}
use Rattle.armus_base.specs.declared.ids.TaskId.{TaskId}
use Rattle.armus_base.specs.declared.status.Status.{Status}
use Rattle.pl_syntax.specs.Printed.{line}
use Rattle.report.specs.Reports.{IsReportedCycle, IsSomeDead}
use Rattle.explain_clock.specs.ClockFacts.{ClockFacts, ClockTextValue}
use Rattle.explain_clock.specs.ClockWords.{activity_words, statement_place_words, waits_at}

-- the circle of these statuses: that of the report, or nobody where nobody is deadlocked
abbrev pub IsClockCircle : List Status → List TaskId → Type 0
IsClockCircle blocked circle = ((IsSomeDead blocked → ⊥) × (circle ≡ [])) ⊎ IsReportedCycle blocked circle

-- where an activity waits:  at 7:3
abbrev pub waiting_place_words : ClockTextValue → Option ℕ → List ℕ
waiting_place_words f None = []
waiting_place_words f (Some n) = codes " at " ++ statement_place_words f n

-- an activity that waits: activity 1 (async at 6:1) at 7:3
abbrev pub waiting_at_words : ClockFacts → ℕ → List ℕ
waiting_at_words f t = activity_words f.of_text t ++ waiting_place_words f.of_text (waits_at f t)

-- what stands between the activity with this place in the circle and the one behind it
abbrev pub activity_link_words : ℕ → List ℕ
activity_link_words zero = codes " waits for "
activity_link_words (suc k) = codes ", which waits for "

-- the activity with this place in the circle, and its link
abbrev pub linked_activity_words : ClockFacts → ℕ → TaskId → List ℕ
linked_activity_words f k t = waiting_at_words f t.0 ++ activity_link_words k

-- the activities of the circle: one that waits for itself, or each with its link, and the first once more
abbrev pub activity_circle_words : ClockFacts → List TaskId → List ℕ
activity_circle_words f [] = []
activity_circle_words f (t ∷ []) = waiting_at_words f t.0 ++ codes " waits for itself"
activity_circle_words f (t ∷ u ∷ rest) = flat_map (λ (k, v). linked_activity_words f k v) (enumerate_from 0 (t ∷ u ∷ rest)) ++ activity_words f.of_text t.0

-- the line of the circle, where there is one
abbrev pub circle_line : ClockFacts → List TaskId → List ℕ
circle_line f [] = []
circle_line f (t ∷ rest) = line (codes "deadlock: " ++ activity_circle_words f (t ∷ rest))

-- the line of the verdict, where somebody waits, or nobody does
abbrev pub clock_verdict_line : ClockFacts → List TaskId → Bool → List ℕ
clock_verdict_line f circle true = circle_line f circle
clock_verdict_line f circle false = line (codes "nobody waits for ever")
