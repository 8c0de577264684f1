-- Worked messages. The last line of a trace stands first.
use Rattle.std.specs.Prelude.{◌≡◌, ℕ, Bool, true, false, List, [], ◌∷◌, ◌++◌, ◌||◌, Some, codes, find, nat_eq, unwrap_or}
use Rattle.monitor_laws.specs.Lines.{Announcement, Joins, Arrives, Waits, Ends, Stands, TraceLine, Announces, PlaysAny, PlaysOneOf}
use Rattle.monitor_laws.specs.States.{Participant, TraceState, after_lines}
use Rattle.monitor_laws.specs.Faults.{participant_in}
use Rattle.monitor_laws.specs.Worked.{says}
use Rattle.monitor_words.specs.Messages.{list_words_of, report_words, rows_told, those_only_in}
use Rattle.monitor_words.specs.Reasons.{EndedKeeps, InCircle, StuckBecause, StuckStops, has_ended}
use Rattle.monitor_words.specs.Sentences.{sentence_words, told_verdict}
use Rattle.monitor_words.specs.Words.{message_line}

-- with a place
abbrev pub says_at : List ℕ → Announcement → List ℕ → TraceLine
says_at t what place = Announces t what (Some place)

-- nobody is stuck; everybody is
abbrev pub none_stuck : ℕ → Bool
none_stuck k = false

-- everybody is stuck
abbrev pub all_stuck : ℕ → Bool
all_stuck k = true

-- the message on the tasks that are stuck and were not, where the task of this name is stuck because of this
abbrev pub told_in : TraceState → (ℕ → Bool) → (ℕ → Bool) → List ℕ → StuckBecause → List ℕ
told_in s was stuck f because =
    message_line (told_verdict because ++ sentence_words (codes " waits for ") (participant_in s f) because)
    ++ rows_told s was stuck (participant_in s f) (those_only_in s stuck was) because

-- two workers wait for main, which does not wait yet
abbrev pub two_workers : List TraceLine
two_workers =
    says (codes "main") (Arrives (codes "pb"))
    ∷ says_at (codes "worker-1") (Waits (codes "pc") 1) (codes "Averaging.java:14")
    ∷ says (codes "worker-1") (Arrives (codes "pc"))
    ∷ says_at (codes "worker-0") (Waits (codes "pc") 1) (codes "Averaging.java:14")
    ∷ says (codes "worker-0") (Arrives (codes "pc"))
    ∷ says (codes "worker-1") (Joins (codes "pb") 0)
    ∷ says (codes "worker-1") (Joins (codes "pc") 0)
    ∷ says (codes "worker-0") (Joins (codes "pb") 0)
    ∷ says (codes "worker-0") (Joins (codes "pc") 0)
    ∷ says (codes "main") (Joins (codes "pb") 0)
    ∷ says (codes "main") (Joins (codes "pc") 0)
    ∷ []

-- main waits for them
abbrev pub main_waits : TraceState
main_waits = after_lines (says_at (codes "main") (Waits (codes "pb") 1) (codes "Averaging.java:21") ∷ two_workers)

-- the two rows of that deadlock
abbrev pub rows_of_main : List ℕ
rows_of_main =
    codes "  main at Averaging.java:21 waits for phase 1 of pb; worker-0, worker-1 have phase 0 (stuck at Averaging.java:14)\n"
    ++ codes "  worker-0, worker-1 at Averaging.java:14 wait for phase 1 of pc; main has phase 0 (stuck at Averaging.java:21)\n"

-- a circle of two, and the report
abbrev pub WorkedCircle : Type 0
WorkedCircle =
    (told_in main_waits none_stuck all_stuck (codes "main") (InCircle (participant_in main_waits (codes "worker-0") ∷ []))
    ≡ codes "deadlock: main at Averaging.java:21 waits for worker-0 at Averaging.java:14, which waits for main\n" ++ rows_of_main)
    × (report_words main_waits all_stuck ≡ codes "tasks 3 running 0 waiting 3 stuck 3 ended 0\n" ++ rows_of_main)
    × (list_words_of main_waits all_stuck ≡ codes "stuck main pb 1\nstuck worker-0 pc 1\nstuck worker-1 pc 1\nlisted 3\n")

-- the same with the guard: main is refused, and stands at its place
abbrev pub WorkedRefusal : Type 0
WorkedRefusal =
    (sentence_words (codes " would wait for ") (participant_in main_waits (codes "main")) (InCircle (participant_in main_waits (codes "worker-0") ∷ []))
    ≡ codes "main at Averaging.java:21 would wait for worker-0 at Averaging.java:14, which waits for main")
    × (report_words (after_lines (says_at (codes "main") Stands (codes "Averaging.java:21") ∷ two_workers)) none_stuck
    ≡ codes "tasks 3 running 1 waiting 2 stuck 0 ended 0\n"
    ++ codes "  worker-0, worker-1 at Averaging.java:14 wait for phase 1 of pc; main has phase 0 (running, last seen at Averaging.java:21)\n")

-- a lock of which the holder waits at a barrier for the one who needs it, and a server that goes on
abbrev pub lock_and_barrier : TraceState
lock_and_barrier =
    after_lines
    (says_at (codes "1/needer") (Waits (codes "m#1") 1) (codes "Bank.java:20")
    ∷ says (codes "?m#1") (Joins (codes "m#1") 0)
    ∷ PlaysOneOf (codes "?m#1") (codes "1/holder" ∷ [])
    ∷ says_at (codes "1/holder") (Waits (codes "meet#1") 1) (codes "Bank.java:13")
    ∷ says (codes "1/holder") (Arrives (codes "meet#1"))
    ∷ says (codes "1/holder") (Joins (codes "meet#1") 0)
    ∷ says (codes "1/needer") (Joins (codes "meet#1") 0)
    ∷ says_at (codes "1/holder") Stands (codes "Bank.java:12")
    ∷ says_at (codes "1/server") Stands (codes "Main.java:40")
    ∷ [])

-- the holder is task 1, and the needer task 2
abbrev pub holder_and_needer : ℕ → Bool
holder_and_needer k = nat_eq k 1 || nat_eq k 2

-- a circle through a wildcard that one task may play; the row of the one who waits comes first, and in a report the list's first
abbrev pub WorkedLock : Type 0
WorkedLock =
    (told_in lock_and_barrier none_stuck holder_and_needer (codes "1/needer") (InCircle (participant_in lock_and_barrier (codes "1/holder") ∷ []))
    ≡ codes "deadlock: 1/needer at Bank.java:20 waits for 1/holder at Bank.java:13, which waits for 1/needer\n"
    ++ codes "  1/needer at Bank.java:20 waits for phase 1 of m#1; ?m#1 has phase 0 (only 1/holder)\n"
    ++ codes "  1/holder at Bank.java:13 waits for phase 1 of meet#1; 1/needer has phase 0 (stuck at Bank.java:20)\n")
    × (report_words lock_and_barrier holder_and_needer
    ≡ codes "tasks 3 running 1 waiting 2 stuck 2 ended 0\n"
    ++ codes "  1/holder at Bank.java:13 waits for phase 1 of meet#1; 1/needer has phase 0 (stuck at Bank.java:20)\n"
    ++ codes "  1/needer at Bank.java:20 waits for phase 1 of m#1; ?m#1 has phase 0 (only 1/holder)\n")

-- a worker that ended never comes to a barrier of three
abbrev pub worker_ended : List TraceLine
worker_ended =
    says_at (codes "w2") Ends (codes "Job.java:8")
    ∷ says_at (codes "w1") (Waits (codes "b") 1) (codes "Job.java:9")
    ∷ says (codes "w1") (Arrives (codes "b"))
    ∷ says_at (codes "w3") (Joins (codes "b") 0) (codes "Job.java:7")
    ∷ says_at (codes "w2") (Joins (codes "b") 0) (codes "Job.java:7")
    ∷ says_at (codes "w1") (Joins (codes "b") 0) (codes "Job.java:7")
    ∷ []

-- the third comes there too
abbrev pub third_waits : TraceState
third_waits = after_lines (says_at (codes "w3") (Waits (codes "b") 1) (codes "Job.java:9") ∷ says (codes "w3") (Arrives (codes "b")) ∷ worker_ended)

-- only the first one is
abbrev pub first_of_three : ℕ → Bool
first_of_three k = nat_eq k 0

-- the first and the third one are
abbrev pub first_and_third : ℕ → Bool
first_and_third k = nat_eq k 0 || nat_eq k 2

-- the first of the list who has ended
abbrev pub first_ended : TraceState → Participant
first_ended s = unwrap_or (find (λ u. has_ended u.condition) s.list) (participant_in s [])

-- who waits for somebody who has ended is stuck because of him; two that wait for the same at one place have one row
abbrev pub WorkedEnded : Type 0
WorkedEnded =
    (told_in (after_lines worker_ended) none_stuck first_of_three (codes "w1") (EndedKeeps (first_ended (after_lines worker_ended)))
    ≡ codes "stuck: w1 at Job.java:9 waits for w2 at Job.java:8, which has ended\n"
    ++ codes "  w1 at Job.java:9 waits for phase 1 of b; w2 has phase 0 (ended, last seen at Job.java:8), w3 has phase 0 (running, last seen at Job.java:7)\n")
    × (told_in third_waits first_of_three first_and_third (codes "w3") (EndedKeeps (first_ended third_waits))
    ≡ codes "stuck: w3 at Job.java:9 waits for w2 at Job.java:8, which has ended\n"
    ++ codes "  w3 at Job.java:9 waits for phase 1 of b; w2 has phase 0 (ended, last seen at Job.java:8)\n")
    × (report_words third_waits first_and_third
    ≡ codes "tasks 2 running 0 waiting 2 stuck 2 ended 1\n"
    ++ codes "  w1, w3 at Job.java:9 wait for phase 1 of b; w2 has phase 0 (ended, last seen at Job.java:8)\n")

-- two fresh barriers, crosswise, and nobody is left who could come
abbrev pub crosswise : TraceState
crosswise =
    after_lines
    (says_at (codes "main") (Waits (codes "end-of-a") 1) (codes "X.java:20")
    ∷ says (codes "?joins-a") (Joins (codes "end-of-a") 0)
    ∷ PlaysOneOf (codes "?joins-a") (codes "a" ∷ [])
    ∷ says_at (codes "b") (Waits (codes "right") 1) (codes "X.java:14")
    ∷ says (codes "b") (Arrives (codes "right"))
    ∷ says_at (codes "a") (Waits (codes "left") 1) (codes "X.java:10")
    ∷ says (codes "a") (Arrives (codes "left"))
    ∷ says_at (codes "b") (Joins (codes "right") 0) (codes "X.java:9")
    ∷ says_at (codes "a") (Joins (codes "left") 0) (codes "X.java:9")
    ∷ says_at (codes "main") Stands (codes "X.java:3")
    ∷ says (codes "?r") (Joins (codes "right") 0)
    ∷ PlaysAny (codes "?r")
    ∷ says (codes "?l") (Joins (codes "left") 0)
    ∷ PlaysAny (codes "?l")
    ∷ [])

-- the three tasks at the two barriers are
abbrev pub tasks_crosswise : ℕ → Bool
tasks_crosswise k = nat_eq k 2 || (nat_eq k 3 || nat_eq k 4)

-- who is stuck because of a stuck task
abbrev pub WorkedCrosswise : Type 0
WorkedCrosswise =
    told_in crosswise none_stuck tasks_crosswise (codes "main") (StuckStops (participant_in crosswise (codes "a")))
    ≡ codes "stuck: main at X.java:20 waits for a at X.java:10, which is stuck\n"
    ++ codes "  main at X.java:20 waits for phase 1 of end-of-a; ?joins-a has phase 0 (only a)\n"
    ++ codes "  a at X.java:10 waits for phase 1 of left; ?l has phase 0 (any task)\n"
    ++ codes "  b at X.java:14 waits for phase 1 of right; ?r has phase 0 (any task)\n"
