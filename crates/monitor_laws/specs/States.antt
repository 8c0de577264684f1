-- States: the list of tasks and wildcards, and what a line makes of it.
use Rattle.std.specs.Prelude.{ℕ, ◌+◌, Bool, true, false, not, ◌&&◌, ◌||◌, if◌then◌else◌, Option, Some, None, List, [], ◌∷◌, ◌++◌, map, filter, length, bytes_eq, eqb, ◌==◌}
use Rattle.std.specs.List.{list_any, starts_with}
use Rattle.monitor_laws.specs.Lines.{Announcement, Joins, Arrives, Leaves, Waits, Goes, Ends, Stands, TraceLine, SaysNothing, AsksReport, AsksList, AreGone, Announces, PlaysAny, PlaysOneOf}

-- in which condition a task or wildcard is. The last two are of wildcards: any task may play it, or one of the tasks with these numbers, which were there with
-- these names when its line came
pub data Condition : Type 0 where
  Running : Condition
  Waiting : (p : List ℕ) (n : ℕ) → Condition
  Ended : Condition
  AnyTask : Condition
  OneOf : (names : List (List ℕ)) (tasks : List ℕ) → Condition

-- a task or wildcard of the list; its number is how many were named before it
pub record Participant : Type 0 where
  pub number : ℕ
  pub name : List ℕ
  pub phases : List (List ℕ × ℕ)  -- the phasers of which it is a member, each with its phase there
  pub condition : Condition
  pub place : Option (List ℕ)

-- the list of tasks and wildcards, in the order in which they were first named, and how many were ever named
pub record TraceState : Type 0 where
  pub list : List Participant
  pub named : ℕ

-- nobody was named
abbrev pub nobody_named : TraceState
nobody_named = record { list = []; named = 0 }

-- a task that has not ended
abbrev pub is_live_task : Condition → Bool
is_live_task Running = true
is_live_task (Waiting p n) = true
is_live_task Ended = false
is_live_task AnyTask = false
is_live_task (OneOf names tasks) = false

-- a wildcard that is not gone
abbrev pub is_live_wildcard : Condition → Bool
is_live_wildcard Running = false
is_live_wildcard (Waiting p n) = false
is_live_wildcard Ended = false
is_live_wildcard AnyTask = true
is_live_wildcard (OneOf names tasks) = true

-- is there with this name: as a task that has not ended, or as a wildcard
abbrev pub is_there_as : List ℕ → Participant → Bool
is_there_as t u = (is_live_task u.condition || is_live_wildcard u.condition) && bytes_eq t u.name

-- behind all others, who is named first here
abbrev pub new_participant : ℕ → List ℕ → Participant
new_participant number t = record { number = number; name = t; phases = []; condition = Running; place = None }

-- with somebody new where nobody is there with the name
abbrev pub with_named : TraceState → List ℕ → TraceState
with_named s t =
    if list_any (is_there_as t) s.list then s
    else record { list = s.list ++ new_participant s.named t ∷ []; named = s.named + 1 }

-- who has ended and is a member of nothing is taken out
abbrev pub stays_listed : Participant → Bool
stays_listed u = is_live_task u.condition || is_live_wildcard u.condition || not (length u.phases == 0)

-- all of the list changed by this, and who then stays
abbrev pub changed_by : (Participant → Participant) → TraceState → TraceState
changed_by change s = record { list = filter stays_listed (map change s.list); named = s.named }

-- what one more line of its own makes of a task or wildcard. A wildcard that ends is taken out, whatever it is a member of
abbrev pub announced_by : Announcement → Participant → Participant
announced_by (Joins p n) u = record u { phases = u.phases ++ (p, n) ∷ [] }
announced_by (Arrives p) u = record u { phases = map (λ m. if bytes_eq p m.0 then (m.0, m.1 + 1) else m) u.phases }
announced_by (Leaves p) u = record u { phases = filter (λ m. not (bytes_eq p m.0)) u.phases }
announced_by (Waits p n) u = record u { condition = Waiting p n }
announced_by Goes u = record u { condition = Running }
announced_by Ends u = record u { condition = Ended; phases = if is_live_wildcard u.condition then [] else u.phases }
announced_by Stands u = u

-- a place that a line has becomes the place
abbrev pub placed_at : Option (List ℕ) → Participant → Participant
placed_at None u = u
placed_at (Some place) u = record u { place = Some place }

-- who is there with the name, or comes by this line, is changed
abbrev pub changed_at : List ℕ → (Participant → Participant) → TraceState → TraceState
changed_at t change s = changed_by (λ u. if is_there_as t u then change u else u) (with_named s t)

-- the numbers of the tasks that are there with these names
abbrev pub task_numbers : TraceState → List (List ℕ) → List ℕ
task_numbers s names = map (λ u. u.number) (filter (λ u. is_live_task u.condition && list_any (λ t. bytes_eq t u.name) names) s.list)

-- whose name begins so has ended. A wildcard stays, as an ended task would
abbrev pub gone_by : List ℕ → Participant → Participant
gone_by beginning u = if starts_with eqb u.name beginning then record u { condition = Ended } else u

-- the state after one more line
abbrev pub after_line : TraceState → TraceLine → TraceState
after_line s SaysNothing = s
after_line s AsksReport = s
after_line s AsksList = s
after_line s (AreGone beginning) = changed_by (gone_by beginning) s
after_line s (Announces t what place) = changed_at t (λ u. placed_at place (announced_by what u)) s
after_line s (PlaysAny w) = changed_at w (λ u. record u { condition = AnyTask }) s
after_line s (PlaysOneOf w names) = changed_at w (λ u. record u { condition = OneOf names (task_numbers s names) }) s

-- the state after these lines, the last one first
abbrev pub after_lines : List TraceLine → TraceState
after_lines [] = nobody_named
after_lines (l ∷ h) = after_line (after_lines h) l
