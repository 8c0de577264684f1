-- The words of a refusal: who was refused and where, the deadlock that the await would have closed, what the task left, and who may go on thereby.
use Rattle.std.specs.Prelude.{ℕ, zero, List, [], ◌∷◌, ◌++◌, ◌==◌, Option, Some, None, codes, decimal, flat_map, if◌then◌else◌, length, option_map}
use Rattle.std.proofs.Common.{suc}
use Rattle.std.specs.List.{enumerate_from}
use Rattle.armus_base.specs.declared.event.Event.{Event}
use Rattle.armus_base.specs.declared.ids.TaskId.{TaskId}
use Rattle.armus_base.specs.Finals.{given_below}
use Rattle.armus_base.specs.Plans.{Plan}
use Rattle.armus_base.specs.States.{Phases, State}
use Rattle.pl_syntax.specs.Printed.{line}
use Rattle.pl_syntax.specs.declared.tree.Program.{Program}
use Rattle.source_map.specs.Origins.{fork_origin, op_origin, phaser_origin, statement_in, written_statements}
use Rattle.source_map.specs.Turns.{op_turns}
use Rattle.source_map.specs.declared.turns.LoopTurn.{LoopTurn}
use Rattle.source_map.specs.PlaceWords.{front_words, place_words}
use Rattle.explain_facts.specs.Accounts.{Layout, statement_place}
use Rattle.explain_facts.specs.Names.{program_names}
use Rattle.explain_tasks.specs.Places.{said_of}
use Rattle.explain_tasks.specs.TaskLists.{separator, tasks_words}
use Rattle.explain_steps.specs.StepWords.{drawn_task_words, made_phaser_words, statement_words}

-- the place of statement n
abbrev pub place_of : Layout → ℕ → List ℕ
place_of l n = place_words l.text (statement_place l n)

-- ---- the await that was refused

-- the own phase of its task, where this is not that of the event:  at phase 5
abbrev pub refused_phase_words : Event → Option ℕ → List ℕ
refused_phase_words e None = []
refused_phase_words e (Some m) = if m == e.n then [] else codes " at phase " ++ decimal m

-- for what it would have waited:  would have waited for phase 1 of right
abbrev pub event_words : Program → Event → List ℕ
event_words p e = codes " would have waited for phase " ++ decimal e.n ++ codes " of " ++ made_phaser_words p e.p.0

-- where it stands, who was refused, and for what the task would have waited, at op i of its code:
-- 14:3: other was refused: await(right) would have waited for phase 1 of right
abbrev pub refused_words : Option (List ℕ) → Layout → Program → ℕ → Event → Option ℕ → ℕ → List ℕ
refused_words file l p t e own i =
    said_of (λ n. front_words l.text file (statement_place l n)) (op_origin p t i) ++ codes ": " ++ drawn_task_words p t ++ codes " was refused: "
    ++ said_of (λ n. statement_words (statement_in (written_statements p.body) n)) (op_origin p t i) ++ refused_phase_words e own ++ event_words p e

-- where task t was forked: forked at 12:1; and a blank; nothing for task 0
abbrev pub refused_forked_words : Layout → Program → ℕ → List ℕ
refused_forked_words l p t = if t == 0 then [] else said_of (λ f. codes "forked at " ++ place_of l f ++ codes "; ") (fork_origin p t)

-- a turn of a loop: ; turn 3 of the loop at 17:5
abbrev pub refused_turn_words : Layout → LoopTurn → List ℕ
refused_turn_words l u = codes "; turn " ++ decimal u.turn ++ codes " of the loop at " ++ place_of l u.statement

-- whence the task and its phaser come, and in which turns of loops it came to the await: forked at 12:1; right made at 8:1; turn 1 of the loop at 13:3
abbrev pub refused_whence_words : Layout → Program → ℕ → ℕ → ℕ → List ℕ
refused_whence_words l p t q i =
    codes "  " ++ refused_forked_words l p t ++ made_phaser_words p q ++ codes " made at " ++ said_of (place_of l) (phaser_origin p q)
    ++ flat_map (refused_turn_words l) (op_turns p t i)

-- ---- the deadlock

-- a task of it, with the place where it stands: other at 14:3
abbrev pub member_words : Layout → Program → (ℕ → ℕ) → ℕ → List ℕ
member_words l p ops t = drawn_task_words p t ++ codes " at " ++ said_of (place_of l) (op_origin p t (ops t))

-- what stands behind task k of it
abbrev pub avoided_link_words : ℕ → List ℕ
avoided_link_words zero = codes " waits for "
avoided_link_words (suc k) = codes ", which waits for "

-- its tasks, each of which waits for the one behind it, and the last for the first, where each stands at this op of its code
abbrev pub avoided_circle_words : Layout → Program → (ℕ → ℕ) → List TaskId → List ℕ
avoided_circle_words l p ops [] = []
avoided_circle_words l p ops (t ∷ []) = member_words l p ops t.0 ++ codes " waits for itself"
avoided_circle_words l p ops (t ∷ u ∷ rest) =
    flat_map (λ (k, v). member_words l p ops v.0 ++ avoided_link_words k) (enumerate_from 0 (t ∷ u ∷ rest)) ++ drawn_task_words p t.0

-- ---- what the task left

-- the phasers on which a task with these phases is a member, of so many
abbrev pub left_phasers : Phases → ℕ → List ℕ
left_phasers phases n = given_below (λ q. option_map (λ m. q) (phases q)) n

-- a list of phasers: left, right and buffer (p3)
abbrev pub phaser_list : Program → List ℕ → List ℕ
phaser_list p qs = flat_map (λ (k, q). separator (length qs) k ++ made_phaser_words p q) (enumerate_from 0 qs)

-- ---- who may go on

-- the tasks that are released by this: t0 and worker (t2 to t4) may go on
abbrev pub going_on_words : Program → List TaskId → List ℕ
going_on_words p [] = codes "no further task may go on"
going_on_words p (t ∷ rest) = tasks_words (program_names p) (t ∷ rest) ++ codes " may go on"

-- ---- the paragraph

-- all lines but the last one of the paragraph of task t, of which an await of this event was refused, with this own phase, where tasks stand at these ops of their codes, the await would have
-- closed this deadlock, and the task left these phasers
abbrev pub refusal_by : Option (List ℕ) → Layout → Program → ℕ → Event → Option ℕ → (ℕ → ℕ) → List TaskId → List ℕ → List ℕ
refusal_by file l p t e own ops cycle left =
    line (refused_words file l p t e own (ops t))
    ++ line (refused_whence_words l p t e.p.0 (ops t))
    ++ line (codes "  deadlock: " ++ avoided_circle_words l p ops cycle)
    ++ line (codes "  it left " ++ phaser_list p left)

-- the whole paragraph where its await was refused in this state, and these tasks are released by this
abbrev pub refusal_words : Option (List ℕ) → Layout → Program → Plan → State → ℕ → Event → (ℕ → ℕ) → List TaskId → List TaskId → List ℕ
refusal_words file l p plan s t e ops cycle released =
    refusal_by file l p t e (s.phases t e.p.0) ops cycle (left_phasers (s.phases t) (length plan.makers))
    ++ line (codes "  thereby " ++ going_on_words p released)
