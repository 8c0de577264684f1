-- In which turns of which loops the visits of a task are made.
use Rattle.std.specs.Prelude.{ℕ, zero, suc, ◌+◌, List, [], ◌∷◌, ◌++◌, map, filter, Option, Some, None}
use Rattle.std.specs.List.{slice_get}
use Rattle.pl_syntax.specs.declared.tree.Program.{Program}
use Rattle.pl_syntax.specs.Tree.{Tree, count, done, fork, loop, plain}
use Rattle.pl_plan.specs.Unfolding.{Coming, Start, Visit, a_fork, a_loop, a_plain, a_turn, visit}
use Rattle.source_map.specs.declared.turns.LoopTurn.{LoopTurn}
use Rattle.source_map.specs.Origins.{comes_to_op, start_of}

-- a visit, and the turns of loops in which it is made, from outside in
pub record TurnedVisit : Type 0 where
  pub visit : Visit
  pub turns : List LoopTurn

-- a visit that is made in no turn
abbrev pub alone : ℕ → Coming → TurnedVisit
alone n c = record { visit = visit n c; turns = [] }

-- the visit in one turn more, which is around the others
abbrev pub within : LoopTurn → TurnedVisit → TurnedVisit
within turn v = record { visit = v.visit; turns = turn ∷ v.turns }

-- what is given for the turns from 1 to k, one after the other
abbrev pub in_turns : {A : Type 0} → (ℕ → List A) → ℕ → List A
in_turns f zero = []
in_turns f (suc k) = in_turns f k ++ f (suc k)

-- turn i of the loop that is statement n
abbrev pub turn_of : ℕ → ℕ → LoopTurn
turn_of n i = record { statement = n; turn = i }

-- the visits of a list of statements, in order, with their turns; its first statement has number n
abbrev pub turned_visits : ℕ → Tree → List TurnedVisit
turned_visits n done = []
turned_visits n (plain s rest) = alone n (a_plain s) ∷ turned_visits (n + 1) rest
turned_visits n (fork x body rest) = alone n (a_fork x body) ∷ turned_visits (n + 1 + count body) rest
turned_visits n (loop k body rest) =
    alone n a_loop
    ∷ (in_turns (λ i. map (within (turn_of n i)) (alone n a_turn ∷ turned_visits (n + 1) body)) k ++ turned_visits (n + 1 + count body) rest)

-- the visits of a task with their turns, by its start; one that is not forked has none
abbrev pub turned_by : Option Start → List TurnedVisit
turned_by None = []
turned_by (Some start) = turned_visits start.first start.body

-- the visits of task t with their turns
abbrev pub turned_visits_of_task : Program → ℕ → List TurnedVisit
turned_visits_of_task program t = turned_by (start_of program t)

-- those that make an op
abbrev pub making_op : List TurnedVisit → List TurnedVisit
making_op vs = filter (λ (v : TurnedVisit). comes_to_op v.visit.coming) vs

-- the turns of a visit, where there is one
abbrev pub turns_of : Option TurnedVisit → List LoopTurn
turns_of None = []
turns_of (Some v) = v.turns

-- in which turns of loops op i of task t is made, from outside in; none for an op of its end
abbrev pub op_turns : Program → ℕ → ℕ → List LoopTurn
op_turns program t i = turns_of (slice_get (making_op (turned_visits_of_task program t)) i)
