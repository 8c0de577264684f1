-- Who keeps an activity from going on: those whose signal is missing, or who have not ended; where they wait themselves, and what they do next there.
use Rattle.std.specs.Prelude.{ℕ, ◌==◌, ◌&&◌, Bool, not, if◌then◌else◌, List, [], ◌∷◌, ◌++◌, Option, Some, None, codes, count_by, decimal, filter, flat_map, length, map, nat_lt, option_and_then, slice_get, take}
use Rattle.std.specs.List.{find, list_any}
use Rattle.std.specs.Str.{bytes_eq}
use Rattle.armus_base.specs.declared.event.Event.{Event}
use Rattle.armus_base.specs.declared.ids.TaskId.{TaskId}
use Rattle.armus_base.specs.declared.status.Member.{Member}
use Rattle.armus_base.specs.declared.status.Status.{Status}
use Rattle.pl_syntax.specs.Printed.{line}
use Rattle.explain_facts.specs.declared.account.Doing.{Doing}
use Rattle.explain_facts.specs.declared.account.Doing.TheVariants.{Advances, Leaves}
use Rattle.explain_tasks.specs.TaskLists.{by_number}
use Rattle.clock_source_map.specs.ClockOrigins.{MadeThing}
use Rattle.explain_clock.specs.ActivityLists.{activity_list, things_said, those_said}
use Rattle.explain_clock.specs.ClockFacts.{ClockFacts, ClockTextValue, ClockWait}
use Rattle.explain_clock.specs.ClockWords.{started_at_words, statement_place_words, waits_at}
use Rattle.explain_clock.specs.declared.facts.NextMove.{NextMove}

-- ---- who they are

-- this phase is one of that clock or finish, and below the phase that is waited for: there the activity has not signalled, or not ended
abbrev pub is_below : Event → Member → Bool
is_below e m = m.p.0 == e.p.0 && nat_lt m.n e.n

-- the activity of this status keeps the event from being reached
abbrev pub is_missing : Event → Status → Bool
is_missing e s = list_any (is_below e) s.phases

-- of these statuses the activities that keep the event from being reached
abbrev pub keepers_in : Event → List Status → List TaskId
keepers_in e ss = map (λ (s : Status). s.t) (filter (is_missing e) ss)

-- the activities that wait and keep the event from being reached, in order of number
abbrev pub keepers : ClockFacts → Event → List TaskId
keepers f e = keepers_in e f.blocked

-- ---- what they do next

-- this is done to clock or finish p
abbrev pub is_move_on : ℕ → NextMove → Bool
is_move_on p x = x.p.0 == p

-- what an activity does next to clock or finish p, if it does something there
abbrev pub next_in : Option ClockWait → ℕ → Option NextMove
next_in None p = None
next_in (Some w) p = find (is_move_on p) w.ahead

-- the same of activity t, behind its wait
abbrev pub next_at : ClockFacts → ℕ → ℕ → Option NextMove
next_at f t p = next_in (slice_get f.waits t) p

-- that so many activities leave a clock with a name at their end, or that they end, where one waits at the end of a finish
abbrev pub ending_words : Option (List ℕ) → ℕ → List ℕ
ending_words (Some x) n = by_number n (codes "; it leaves at its end") (codes "; they leave at their end")
ending_words None n = by_number n (codes "; it ends") (codes "; they end")

-- what is done at a statement, up to the place of this
abbrev pub next_doing_words : Doing → List ℕ
next_doing_words Advances = codes "; next signal at "
next_doing_words Leaves = codes "; next drop at "

-- what so many activities do at a statement, or at their end
abbrev pub move_words : ClockTextValue → Option (List ℕ) → ℕ → Doing → Option ℕ → List ℕ
move_words f name n does None = ending_words name n
move_words f name n does (Some s) = next_doing_words does ++ statement_place_words f s

-- ; next signal at 12:3, behind this wait
abbrev pub behind_words : ClockTextValue → Option (List ℕ) → ℕ → Option NextMove → List ℕ
behind_words f name n None = []
behind_words f name n (Some x) = move_words f name n x.does x.statement ++ codes ", behind this wait"

-- ---- lines

-- the name of clock p; a finish has none
abbrev pub clock_name : ClockTextValue → ℕ → Option (List ℕ)
clock_name f p = option_and_then (λ (thing : MadeThing). thing.name) (slice_get f.things p)

-- the signals of so many activities, called so, on a clock with a name are missing; or they have not ended
abbrev pub missing_words : Option (List ℕ) → ℕ → List ℕ → List ℕ
missing_words (Some x) n who =
    by_number n (codes "  the signal of ") (codes "  the signals of ") ++ who ++ by_number n (codes " is missing") (codes " are missing")
missing_words None n who = codes "  " ++ who ++ by_number n (codes " has not ended") (codes " have not ended")

-- : it waits at 5:5
abbrev pub standing_words : ClockTextValue → ℕ → Option ℕ → List ℕ
standing_words f n None = []
standing_words f n (Some s) = by_number n (codes ": it waits at ") (codes ": they wait at ") ++ statement_place_words f s

-- the line of so many activities, called so, that keep the event from being reached; what is said of them is what is said of activity t
abbrev pub keeper_line : ClockFacts → Event → ℕ → ℕ → List ℕ → List ℕ
keeper_line f e t n who =
    line
    (missing_words (clock_name f.of_text e.p.0) n (who ++ started_at_words f.of_text t) ++ standing_words f.of_text n (waits_at f t)
    ++ behind_words f.of_text (clock_name f.of_text e.p.0) n (next_at f t e.p.0))

-- what the line of activity t says, but for its number
abbrev pub keeper_said : ClockFacts → Event → ℕ → List ℕ
keeper_said f e t = keeper_line f e t 1 []

-- the line of these activities, of whom the same is said
abbrev pub keepers_line : ClockFacts → Event → List TaskId → List ℕ
keepers_line f e [] = []
keepers_line f e (t ∷ ts) = keeper_line f e t.0 (length (t ∷ ts)) (activity_list (t ∷ ts))

-- the line with the number of those that have none
abbrev pub others_line : ℕ → List ℕ
others_line count = if count == 0 then [] else line (codes "  and " ++ decimal count ++ codes " more")

-- how many of these activities nothing of this is said of
abbrev pub others_in : (ℕ → List ℕ) → List TaskId → List (List ℕ) → ℕ
others_in says ts told = count_by (λ (t : TaskId). not (list_any (bytes_eq (says t.0)) told)) ts

-- the lines that say this, each of all those of whom it is so, and the number of the others
abbrev pub lines_of : ClockFacts → Event → List (List ℕ) → List ℕ
lines_of f e told =
    flat_map (λ said. keepers_line f e (those_said (keeper_said f e) (keepers f e) said)) told
    ++ others_line (others_in (keeper_said f e) (keepers f e) told)

-- the lines of those who keep the event from being reached: of the first three things that are said of them
abbrev pub keeper_lines : ClockFacts → Event → List ℕ
keeper_lines f e = lines_of f e (take 3 (things_said (keeper_said f e) (keepers f e)))
