-- The explanation of a clock text: who waits in it for ever, where, for whom and why.
use Rattle.std.specs.Prelude.{◌≡◌, ℕ, zero, suc, ◌-◌, ◌==◌, ◌&&◌, Bool, true, false, not, if◌then◌else◌, List, [], ◌∷◌, ◌++◌, Option, Some, None, Ok, codes, count_by, decimal, filter, length, slice_get, slice_index_or, take}
use Rattle.std.specs.List.{flat_map, list_any}
use Rattle.armus_base.specs.declared.ending.TaskEnd.{TaskEnd}
use Rattle.armus_base.specs.declared.ending.TaskEnd.TheVariants.{Blocked, Done, Refused, Unforked}
use Rattle.armus_base.specs.declared.event.Event.{Event}
use Rattle.armus_base.specs.declared.ids.TaskId.{TaskId}
use Rattle.armus_base.specs.Finals.{list_below}
use Rattle.armus_base.specs.Plans.{Plan}
use Rattle.armus_base.specs.States.{State}
use Rattle.pl_syntax.specs.Printed.{line}
use Rattle.clock_syntax.specs.Grammar.{IsClockText}
use Rattle.clock_syntax.specs.Trees.{ClockTree}
use Rattle.clock_semantics.specs.Unfolding.{ClockUnfolding, clock_unfolded, plan_of_moves}
use Rattle.clock_source_map.specs.ClockOrigins.{StartedActivity, MadeThing}
use Rattle.explain_tasks.specs.TaskLists.{by_number}
use Rattle.explain_clock.specs.ActivityLists.{activity_list, things_said, those_said}
use Rattle.explain_clock.specs.ClockCircles.{IsClockCircle, clock_verdict_line}
use Rattle.explain_clock.specs.ClockFacts.{AreClockFacts, ClockFacts, ClockTextValue, end_at, pending_in}
use Rattle.explain_clock.specs.ClockMends.{clock_circle_hint}
use Rattle.explain_clock.specs.ClockNotes.{clock_notes}
use Rattle.explain_clock.specs.ClockKeepers.{keeper_lines, others_line}
use Rattle.explain_clock.specs.ClockWords.{front_of, made_clock_words, made_finish_words, started_at_words, waits_at}

-- ---- how activities stand

-- it has ended
abbrev pub is_ended : TaskEnd → Bool
is_ended Done = true
is_ended end = false

-- it waits
abbrev pub waits_there : TaskEnd → Bool
waits_there (Blocked e) = true
waits_there end = false

-- it is not started
abbrev pub is_unstarted : TaskEnd → Bool
is_unstarted Unforked = true
is_unstarted end = false

-- activities 4 ended 1
abbrev pub ended_counts : List TaskEnd → List ℕ
ended_counts ends = codes "activities " ++ decimal (length ends) ++ codes " ended " ++ decimal (count_by is_ended ends)

-- and behind it in the same line, waiting 2 unstarted 1
abbrev pub waiting_counts : List TaskEnd → List ℕ
waiting_counts ends = line (codes " waiting " ++ decimal (count_by waits_there ends) ++ codes " unstarted " ++ decimal (count_by is_unstarted ends))

-- some activity waits
abbrev pub some_activity_waits : List TaskEnd → Bool
some_activity_waits ends = list_any waits_there ends

-- ---- what is pending

-- what is so of the numbers below n, in order
abbrev pub lines_below : {A : Type 0} → (ℕ → List A) → ℕ → List A
lines_below l zero = []
lines_below l (suc n) = lines_below l n ++ l n

-- a clock of this name, made at statement n, that is pending; a finish has no such line
abbrev pub pending_named : ClockTextValue → Option (List ℕ) → ℕ → List (List ℕ)
pending_named f None n = []
pending_named f (Some x) n = line (codes "  resume left " ++ made_clock_words f x n ++ codes " pending") ∷ []

-- the line of this clock, if there is such a clock
abbrev pub pending_line : ClockTextValue → Option MadeThing → List (List ℕ)
pending_line f None = []
pending_line f (Some thing) = pending_named f thing.name thing.statement

-- the line of p, where it is pending and not what is waited for
abbrev pub line_if_pending : ClockFacts → Event → List Bool → ℕ → List (List ℕ)
line_if_pending f e row p = if slice_index_or row p false && not (p == e.p.0) then pending_line f.of_text (slice_get f.of_text.things p) else []

-- the first three of these lines, and the number of the others
abbrev pub few_lines : List (List ℕ) → List ℕ
few_lines lines = flat_map (λ (text : List ℕ). text) (take 3 lines) ++ others_line (length lines - 3)

-- the lines of what is pending where activity t waits, in order
abbrev pub pending_lines : ClockFacts → Event → ℕ → List ℕ
pending_lines f e t = few_lines (lines_below (line_if_pending f e (pending_in (slice_get f.waits t))) (length f.of_text.things))

-- ---- paragraphs

-- for what so many activities wait: at an advance for phase 1 of clock c made at 1:1, or at the end of the finish at 2:1
abbrev pub wait_words : ClockTextValue → ℕ → Event → Option (List ℕ) → ℕ → List ℕ
wait_words f n e (Some x) s =
    by_number n (codes " waits at its advance for phase ") (codes " wait at their advance for phase ") ++ decimal e.n ++ codes " of " ++ made_clock_words f x s
wait_words f n e None s = by_number n (codes " waits at the end of ") (codes " wait at the end of ") ++ made_finish_words f s

-- the first line of so many activities, called so, that wait for the event of this clock or finish; what is said of them is what is said of activity t
abbrev pub activities_wait_line : ClockFacts → ℕ → ℕ → List ℕ → Event → MadeThing → List ℕ
activities_wait_line f t n who e thing =
    line (front_of f.of_text (waits_at f t) ++ who ++ started_at_words f.of_text t ++ wait_words f.of_text n e thing.name thing.statement)

-- their paragraph
abbrev pub waiting_paragraph : ClockFacts → ℕ → ℕ → List ℕ → Event → MadeThing → List ℕ
waiting_paragraph f t n who e thing = activities_wait_line f t n who e thing ++ keeper_lines f e ++ pending_lines f e t

-- the same, if there is such a clock or finish
abbrev pub paragraph_of_thing : ClockFacts → ℕ → ℕ → List ℕ → Event → Option MadeThing → List ℕ
paragraph_of_thing f t n who e None = []
paragraph_of_thing f t n who e (Some thing) = waiting_paragraph f t n who e thing

-- the statement that starts an activity, if there is one
abbrev pub started_at : Option StartedActivity → Option ℕ
started_at None = None
started_at (Some b) = Some (b.first - 1)

-- the line of so many activities, called so, that are not started, as activity t is not
abbrev pub unstarted_line : ClockTextValue → ℕ → ℕ → List ℕ → List ℕ
unstarted_line f t n who =
    line
    (front_of f (started_at (slice_get f.begun t)) ++ who ++ started_at_words f t ++ by_number n (codes " is not started") (codes " are not started"))

-- the paragraph of so many activities, called so, of whom is said what is said of activity t, which has ended so
abbrev pub paragraph_by : ClockFacts → ℕ → ℕ → List ℕ → TaskEnd → List ℕ
paragraph_by f t n who (Blocked e) = paragraph_of_thing f t n who e (slice_get f.of_text.things e.p.0)
paragraph_by f t n who Unforked = unstarted_line f.of_text t n who
paragraph_by f t n who Done = []
paragraph_by f t n who (Refused e) = []

-- what the paragraph of activity t says, but for its number
abbrev pub paragraph_said : ClockFacts → ℕ → List ℕ
paragraph_said f t = paragraph_by f t 1 [] (end_at f t)

-- the paragraph of these activities, of whom the same is said
abbrev pub paragraph_of : ClockFacts → List TaskId → List ℕ
paragraph_of f [] = []
paragraph_of f (t ∷ ts) = paragraph_by f t.0 (length (t ∷ ts)) (activity_list (t ∷ ts)) (end_at f t.0)

-- the activities that have ended so, in order of number
abbrev pub activities_that : (TaskEnd → Bool) → ClockFacts → List TaskId
activities_that test f = filter (λ (t : TaskId). test (end_at f t.0)) (list_below (λ t. record { 0 = t }) (length f.ends))

-- those that have a paragraph: first all that wait, then all that are not started
abbrev pub explained_activities : ClockFacts → List TaskId
explained_activities f = activities_that waits_there f ++ activities_that is_unstarted f

-- the paragraph that says this, of all those of whom it is so
abbrev pub paragraph_saying : ClockFacts → List ℕ → List ℕ
paragraph_saying f said = paragraph_of f (those_said (paragraph_said f) (explained_activities f) said)

-- what the paragraphs say, where this is the circle: what is said of the circle's activities first
abbrev pub paragraph_sayings : ClockFacts → List TaskId → List (List ℕ)
paragraph_sayings f circle = things_said (paragraph_said f) (circle ++ explained_activities f)

-- ---- the explanation

-- what stands behind the paragraphs: the hint of the circle where somebody waits, and the notes where nobody does
abbrev pub clock_end : ClockFacts → Plan → List TaskId → Bool → List ℕ
clock_end f plan circle true = clock_circle_hint f circle
clock_end f plan circle false = clock_notes f.of_text plan

-- all lines, where this is the circle
abbrev pub clock_lines : ClockFacts → Plan → List TaskId → List ℕ
clock_lines f plan circle =
    ended_counts f.ends ++ waiting_counts f.ends ++ clock_verdict_line f circle (some_activity_waits f.ends)
    ++ flat_map (paragraph_saying f) (paragraph_sayings f circle)
    ++ clock_end f plan circle (some_activity_waits f.ends)

-- the lines explain how the activities of a text, of the file with this name or of none, stand in this state of the plan of its program's unfolding
pub record ExplainsActivities (file : Option (List ℕ)) (text : List ℕ) (p : ClockTree) (u : ClockUnfolding) (plan : Plan) (s : State) (done : ℕ → ℕ) (lines : List ℕ) (waits : Bool) : Type 0 where
  pub reads : IsClockText text p
  pub unfolds : clock_unfolded p ≡ Ok u
  pub plan_is : plan ≡ plan_of_moves u
  pub facts : ClockFacts
  pub are_facts : AreClockFacts file text p u plan s done facts
  pub circle : List TaskId
  pub circle_is : IsClockCircle facts.blocked circle
  pub lines_are : lines ≡ clock_lines facts plan circle
  pub waits_are : waits ≡ some_activity_waits facts.ends
