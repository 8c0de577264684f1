-- Where the unfolding was at a check fault.
use Rattle.std.specs.Prelude.{ℕ, ◌==◌, ◌&&◌, Bool, true, false, if◌then◌else◌, List, [], ◌∷◌, ◌++◌, codes, decimal, flat_map}
use Rattle.pl_syntax.specs.Printed.{line}
use Rattle.source_map.specs.PlaceWords.{place_words}
use Rattle.explain_check.specs.declared.scene.LoopTurn.{LoopTurn}
use Rattle.explain_check.specs.declared.scene.NamedTask.{NamedTask}
use Rattle.explain_check.specs.NameWords.{task_words}
use Rattle.explain_check.specs.StatementPlaces.{place_of_statement}

-- in t1 (t), forked at 3:1
abbrev pub forked_at_words : List ℕ → List ℕ → ℕ → NamedTask → ℕ → List ℕ
forked_at_words text offsets end task forked =
    codes "in " ++ task_words task ++ codes ", forked at " ++ place_words text (place_of_statement text offsets end forked)

-- turn 2 of the loop at 5:3
abbrev pub loop_turn_words : List ℕ → List ℕ → ℕ → LoopTurn → List ℕ
loop_turn_words text offsets end turn =
    (codes "turn " ++ decimal turn.turn ++ codes " of the loop at ") ++ place_words text (place_of_statement text offsets end turn.statement)

-- turns, each behind a semicolon
abbrev pub more_turns : List ℕ → List ℕ → ℕ → List LoopTurn → List ℕ
more_turns text offsets end turns = flat_map (λ turn. codes "; " ++ loop_turn_words text offsets end turn) turns

-- turns with semicolons between them
abbrev pub turns_words : List ℕ → List ℕ → ℕ → List LoopTurn → List ℕ
turns_words text offsets end [] = []
turns_words text offsets end (turn ∷ more) = loop_turn_words text offsets end turn ++ more_turns text offsets end more

-- there are none
abbrev pub is_none : List LoopTurn → Bool
is_none [] = true
is_none (turn ∷ more) = false

-- the parts of the note: the task, where it is not task 0, and the turns of its loops
abbrev pub whereabouts_words : List ℕ → List ℕ → ℕ → NamedTask → ℕ → List LoopTurn → List ℕ
whereabouts_words text offsets end task forked turns =
    if task.t.0 == 0 then turns_words text offsets end turns
    else (forked_at_words text offsets end task forked ++ more_turns text offsets end turns)

-- the note; there is none for task 0 outside of loops
abbrev pub whereabouts : List ℕ → List ℕ → ℕ → NamedTask → ℕ → List LoopTurn → List ℕ
whereabouts text offsets end task forked turns =
    if (task.t.0 == 0) && is_none turns then [] else line (codes "  " ++ whereabouts_words text offsets end task forked turns)
