-- What is written of those of a list: names, places, conditions, groups and rows.
use Rattle.std.specs.Prelude.{ℕ, zero, suc, ◌-◌, Bool, not, ◌&&◌, ◌==◌, if◌then◌else◌, Option, Some, None, List, [], ◌∷◌, ◌++◌, bytes_eq, codes, decimal, drop, filter, flat_map, length, map, sum_by, take, unwrap_or}
use Rattle.std.specs.List.{join_by}
use Rattle.std.specs.Option.{option_eq}
use Rattle.monitor_laws.specs.Faults.{phase_on}
use Rattle.monitor_laws.specs.States.{Condition, Running, Waiting, Ended, AnyTask, OneOf, Participant, TraceState}
use Rattle.monitor_words.specs.Stops.{keeps_waiting, waited_for}

-- a line of a message ends with an LF
abbrev pub message_line : List ℕ → List ℕ
message_line words = words ++ 10 ∷ []

-- how many are left, where some are:  and 3 more
abbrev pub more_words : ℕ → List ℕ
more_words zero = []
more_words (suc k) = codes " and " ++ decimal (suc k) ++ codes " more"

-- NAMES: a, b, c and 3 more
abbrev pub names_words : List (List ℕ) → List ℕ
names_words names = join_by (λ x. x) (codes ", ") (take 3 names) ++ more_words (length names - 3)

-- the names of these
abbrev pub names_of : List Participant → List ℕ
names_of us = names_words (map (λ u. u.name) us)

-- a place behind these words; nothing where there is none
abbrev pub at_words : List ℕ → Option (List ℕ) → List ℕ
at_words before None = []
at_words before (Some place) = before ++ place

-- WHO: main at Averaging.java:21
abbrev pub who_words : Participant → List ℕ
who_words u = u.name ++ at_words (codes " at ") u.place

-- phase 1 of pb
abbrev pub waited_words : List ℕ × ℕ → List ℕ
waited_words e = codes "phase " ++ decimal e.1 ++ codes " of " ++ e.0

-- what a waiting task waits for
abbrev pub waited_event : Participant → List ℕ × ℕ
waited_event t = unwrap_or (waited_for t.condition) ([], 0)

-- ---- keepers

-- CONDITION of somebody who is stuck or not, has a place or not, and is in this condition
abbrev pub condition_words : Bool → Option (List ℕ) → Condition → List ℕ
condition_words stuck place Running = codes "running" ++ at_words (codes ", last seen at ") place
condition_words stuck place (Waiting p n) = (if stuck then codes "stuck" else codes "waiting") ++ at_words (codes " at ") place
condition_words stuck place Ended = codes "ended" ++ at_words (codes ", last seen at ") place
condition_words stuck place AnyTask = codes "any task"
condition_words stuck place (OneOf names tasks) = (if length names == 1 then codes "only " else codes "one of ") ++ names_words names

-- the words of the condition of who keeps others waiting
abbrev pub keeper_words : (ℕ → Bool) → Participant → List ℕ
keeper_words stuck u = condition_words (stuck u.number) u.place u.condition

-- each that is like none before it
abbrev pub firsts_of : {A : Type 0} → (A → A → Bool) → List A → List A
firsts_of alike [] = []
firsts_of alike (x ∷ xs) = x ∷ filter (λ y. not (alike x y)) (firsts_of alike xs)

-- the groups of those who are alike, in the order of their firsts in a list: each with its first and all of it
abbrev pub groups_by : {A : Type 0} → (A → A → Bool) → List A → List A → List (A × List A)
groups_by alike order xs = map (λ x. (x, filter (alike x) xs)) (firsts_of alike order)

-- how many stand in the groups behind the first k
abbrev pub count_behind : {A : Type 0} → ℕ → List (A × List A) → ℕ
count_behind k groups = sum_by (λ g. length g.1) (drop k groups)

-- the same phase on p, place and words of the condition
abbrev pub keep_alike : (ℕ → Bool) → List ℕ → Participant → Participant → Bool
keep_alike stuck p u v =
    option_eq (λ m k. m == k) (phase_on u p) (phase_on v p)
    && (option_eq bytes_eq u.place v.place && bytes_eq (keeper_words stuck u) (keeper_words stuck v))

-- a group on p: w1, w2 have phase 0 (running, last seen at Job.java:7)
abbrev pub group_words : (ℕ → Bool) → List ℕ → Participant × List Participant → List ℕ
group_words stuck p g =
    names_of g.1
    ++ (if length g.1 == 1 then codes " has phase " else codes " have phase ")
    ++ decimal (unwrap_or (phase_on g.0 p) 0)
    ++ codes " ("
    ++ keeper_words stuck g.0
    ++ codes ")"

-- those who keep the task waiting, in list order
abbrev pub keepers_of : TraceState → Participant → List Participant
keepers_of s t = filter (λ u. keeps_waiting u t) s.list

-- these in groups that read alike
abbrev pub keeper_groups : TraceState → (ℕ → Bool) → Participant → List (Participant × List Participant)
keeper_groups s stuck t = groups_by (keep_alike stuck (waited_event t).0) (keepers_of s t) (keepers_of s t)

-- KEEPERS of a task: three groups at most, and how many keepers are left
abbrev pub keepers_words : TraceState → (ℕ → Bool) → Participant → List ℕ
keepers_words s stuck t =
    join_by (group_words stuck (waited_event t).0) (codes ", ") (take 3 (keeper_groups s stuck t)) ++ more_words (count_behind 3 (keeper_groups s stuck t))

-- ---- rows

-- the same P, N and place
abbrev pub wait_alike : Participant → Participant → Bool
wait_alike t u =
    option_eq (λ d e. bytes_eq d.0 e.0 && (d.1 == e.1)) (waited_for t.condition) (waited_for u.condition)
    && option_eq bytes_eq t.place u.place

-- the row of tasks that wait alike, of which this is one
abbrev pub wait_row_words : TraceState → (ℕ → Bool) → Participant × List Participant → List ℕ
wait_row_words s stuck g =
    message_line (codes "  "
    ++ names_of g.1
    ++ at_words (codes " at ") g.0.place
    ++ (if length g.1 == 1 then codes " waits for " else codes " wait for ")
    ++ waited_words (waited_event g.0)
    ++ codes "; "
    ++ keepers_words s stuck g.0)

-- the line on tasks that stand in no row that is shown, where there are some
abbrev pub more_line : ℕ → List ℕ
more_line zero = []
more_line (suc k) = message_line (codes "  and " ++ decimal (suc k) ++ codes " more")

-- ROWS of groups of tasks: ten at most, and how many tasks are left
abbrev pub rows_words : TraceState → (ℕ → Bool) → List (Participant × List Participant) → List ℕ
rows_words s stuck groups = flat_map (wait_row_words s stuck) (take 10 groups) ++ more_line (count_behind 10 groups)
