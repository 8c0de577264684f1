-- That the turns that are told of an op are those of the loops around its statement, as many as began since its task came to each loop.
use Rattle.std.specs.Prelude.{◌≡◌, ℕ, true, List, Some, map, suc, take}
use Rattle.std.specs.List.{slice_get}
use Rattle.pl_syntax.specs.declared.tree.Program.{Program}
use Rattle.source_map.specs.declared.turns.LoopTurn.{LoopTurn}
use Rattle.source_map.specs.Origins.{comes_to_op, start_of, visits_of_task}
use Rattle.source_map.specs.Turns.{TurnedVisit, turned_visits_of_task}
use Rattle.explain_check.specs.declared.scene.LoopTurn as scene
use Rattle.explain_check.specs.Turns.{loops_of, turns_in}

-- turns of loops, as they are told of a fault
abbrev pub as_of_fault : List LoopTurn → List scene.LoopTurn
as_of_fault turns = map (λ (turn : LoopTurn). record { statement = turn.statement; turn = turn.turn }) turns

-- where visit k of a task makes an op, the turns that are told of it are those in which the task is behind the visits up to this one, of the loops around its statement
abbrev pub TurnsAreCounted : Type 0
TurnsAreCounted =
    (program : Program) (t k : ℕ) (v : TurnedVisit) → slice_get (turned_visits_of_task program t) k ≡ Some v → comes_to_op v.visit.coming ≡ true →
    as_of_fault v.turns ≡ turns_in (loops_of (start_of program t) v.visit.statement) (take (suc k) (visits_of_task program t))
