-- In which turns of its loops a task is.
use Rattle.std.specs.Prelude.{ℕ, ◌+◌, ◌==◌, Bool, true, false, ◌&&◌, if◌then◌else◌, List, [], ◌∷◌, map, nat_le, nat_lt, reverse, count_by, Option, Some, None}
use Rattle.std.specs.List.{before_first}
use Rattle.pl_syntax.specs.Tree.{Tree, done, plain, fork, loop, count}
use Rattle.pl_plan.specs.Unfolding.{Coming, Start, Visit, a_loop, a_turn}
use Rattle.pl_plan.specs.Stages.{Stage, comes}
use Rattle.explain_check.specs.declared.scene.LoopTurn.{LoopTurn}

-- Of a list of statements, of which this is the first number: the loops around statement n, from outside in. What a fork's body has is not of this task.
abbrev pub loops_around : ℕ → Tree → ℕ → List ℕ
loops_around first done n = []
loops_around first (plain s rest) n = loops_around (first + 1) rest n
loops_around first (fork x body rest) n = loops_around (first + 1 + count body) rest n
loops_around first (loop k body rest) n =
    if nat_lt first n && nat_le n (first + count body) then first ∷ loops_around (first + 1) body n
    else loops_around (first + 1 + count body) rest n

-- the visits of task t among these stages
abbrev pub visits_among : ℕ → List Stage → List Visit
visits_among t [] = []
visits_among t (comes u m ∷ vs) = if u == t then m ∷ visits_among t vs else visits_among t vs
visits_among t (v ∷ vs) = visits_among t vs

-- the visit is a coming to this loop
abbrev pub comes_to_loop : ℕ → Visit → Bool
comes_to_loop n m = (m.statement == n) && of_loop m.coming
  where
    of_loop : Coming → Bool
    of_loop a_loop = true
    of_loop c = false

-- the visit begins a turn of this loop
abbrev pub begins_turn : ℕ → Visit → Bool
begins_turn n m = (m.statement == n) && of_turn m.coming
  where
    of_turn : Coming → Bool
    of_turn a_turn = true
    of_turn c = false

-- in which turn of this loop a task is behind these visits: how many turns began since it came to the loop
abbrev pub turn_in : ℕ → List Visit → ℕ
turn_in n visits = count_by (begins_turn n) (before_first (comes_to_loop n) (reverse visits))

-- the turns of these loops
abbrev pub turns_in : List ℕ → List Visit → List LoopTurn
turns_in loops visits = map (λ n. record { statement = n; turn = turn_in n visits }) loops

-- the loops around statement n in the code of a task, by its start
abbrev pub loops_of : Option Start → ℕ → List ℕ
loops_of None n = []
loops_of (Some start) n = loops_around start.first start.body n
