-- The words for a step of a clock text: which activity makes it, at which statement, and what it changes.
use Rattle.std.specs.Prelude.{ℕ, List, [], ◌∷◌, ◌++◌, Option, Some, None, codes, decimal, slice_get}
use Rattle.std.specs.List.{flat_map}
use Rattle.armus_base.specs.declared.event.Event.{Event}
use Rattle.armus_base.specs.declared.op.Op.{Op}
use Rattle.armus_base.specs.declared.op.Op.TheVariants.{Make}
use Rattle.armus_base.specs.Plans.{Action, Advances, Blocks, Drops, Forks, Makes, Passes, Plan, Refuses, Registers, code_of}
use Rattle.armus_base.specs.States.{State, awaited}
use Rattle.explain_facts.specs.Accounts.{numbered}
use Rattle.explain_steps.specs.StepWords.{phase_change, with_phase_words}
use Rattle.clock_syntax.specs.Trees.{advance, clock, drop, resume}
use Rattle.clock_semantics.specs.Unfolding.{ClockPart, a_finish, a_plain, an_async}
use Rattle.clock_source_map.specs.ClockOrigins.{MadeThing}
use Rattle.explain_clock.specs.ClockFacts.{ClockTextValue}
use Rattle.explain_clock.specs.ClockWords.{activity_words, made_clock_words, made_finish_words, statement_place_words}
use Rattle.explain_steps.specs.OpFacts.{OpFacts, clock_op_origin}

-- ---- where a step is made

-- the name behind others in a list
abbrev pub behind_comma : List ℕ → List ℕ
behind_comma x = codes ", " ++ x

-- names with commas: c, d
abbrev pub listed_names : List (List ℕ) → List ℕ
listed_names [] = []
listed_names (x ∷ xs) = x ++ flat_map behind_comma xs

-- a finish begins with the op that makes it, and its other ops are of its end
abbrev pub finish_op_words : Option Op → List ℕ
finish_op_words (Some (Make p)) = codes "finish"
finish_op_words o = codes "end of the finish"

-- the statement from which this op comes, as it is printed, without its semicolon and its body
abbrev pub clock_statement_words : Option Op → Option ClockPart → List ℕ
clock_statement_words o (Some (a_plain (clock x))) = codes "clock " ++ x
clock_statement_words o (Some (a_plain (advance x))) = codes "advance(" ++ x ++ codes ")"
clock_statement_words o (Some (a_plain (resume x))) = codes "resume(" ++ x ++ codes ")"
clock_statement_words o (Some (a_plain (drop x))) = codes "drop(" ++ x ++ codes ")"
clock_statement_words o (Some (an_async xs body)) = codes "async(" ++ listed_names xs ++ codes ")"
clock_statement_words o (Some a_finish) = finish_op_words o
clock_statement_words o part = []

-- where an activity makes this op, which comes from this statement: 9:7: advance(c); or, where it comes from none, at its end
abbrev pub clock_whence_words : OpFacts → Option Op → Option ℕ → List ℕ
clock_whence_words f o (Some n) = statement_place_words f.of_text n ++ codes ": " ++ clock_statement_words o (numbered f.statements n)
clock_whence_words f o None = codes "its end"

-- ---- what a step changes, by the name of the clock and its statement; a finish has no name

-- what is made there, with phase 0
abbrev pub making_words : ClockTextValue → Option (List ℕ) → ℕ → List ℕ
making_words f (Some x) n = codes "makes clock " ++ x ++ codes " with phase 0"
making_words f None n = codes "begins " ++ made_finish_words f n

-- activity c becomes a member, with this phase
abbrev pub registered_words : ClockTextValue → ℕ → Option ℕ → Option (List ℕ) → ℕ → List ℕ
registered_words f c phase (Some x) n = codes "registers " ++ activity_words f c ++ codes " on " ++ made_clock_words f x n ++ with_phase_words phase
registered_words f c phase None n = made_finish_words f n ++ codes " waits for " ++ activity_words f c

-- a signal from this phase to the next
abbrev pub signalled_words : ClockTextValue → Option ℕ → Option (List ℕ) → ℕ → List ℕ
signalled_words f phase (Some x) n = codes "signals on " ++ made_clock_words f x n ++ codes ": " ++ phase_change phase
signalled_words f phase None n = codes "comes to the end of " ++ made_finish_words f n

-- a finish is ended by the op that comes from its statement; an activity that ends leaves the finish that waits for it
abbrev pub left_finish_words : Option ℕ → List ℕ
left_finish_words (Some k) = codes "has ended "
left_finish_words None = codes "leaves "

-- a member leaves, by an op of this origin
abbrev pub left_words : ClockTextValue → Option ℕ → Option (List ℕ) → ℕ → List ℕ
left_words f from (Some x) n = codes "leaves " ++ made_clock_words f x n
left_words f from None n = left_finish_words from ++ made_finish_words f n

-- the event is waited for
abbrev pub clock_wait_words : ClockTextValue → Event → Option (List ℕ) → ℕ → List ℕ
clock_wait_words f e (Some x) n = codes "waits for phase " ++ decimal e.n ++ codes " of " ++ made_clock_words f x n
clock_wait_words f e None n = codes "waits at the end of " ++ made_finish_words f n

-- what words say of the clock or finish with this number, if there is one
abbrev pub said_of_thing : (Option (List ℕ) → ℕ → List ℕ) → Option MadeThing → List ℕ
said_of_thing words None = []
said_of_thing words (Some thing) = words thing.name thing.statement

-- the event is waited for, if there is one
abbrev pub awaited_event_words : ClockTextValue → Option Event → List ℕ
awaited_event_words f None = []
awaited_event_words f (Some e) = said_of_thing (clock_wait_words f e) (slice_get f.things e.p.0)

-- what activity t changes in a state by this action, of an op of this origin
abbrev pub clock_change_words : ClockTextValue → State → ℕ → Option ℕ → Action → List ℕ
clock_change_words f s t from (Makes q) = said_of_thing (making_words f) (slice_get f.things q)
clock_change_words f s t from (Registers c q) = said_of_thing (registered_words f c (s.phases t q)) (slice_get f.things q)
clock_change_words f s t from (Forks c) = codes "starts " ++ activity_words f c
clock_change_words f s t from (Advances q) = said_of_thing (signalled_words f (s.phases t q)) (slice_get f.things q)
clock_change_words f s t from (Drops q) = said_of_thing (left_words f from) (slice_get f.things q)
clock_change_words f s t from (Blocks aim) = awaited_event_words f (awaited (Some (Blocks aim)) (s.phases t))
clock_change_words f s t from (Passes q) = codes "goes on"
clock_change_words f s t from (Refuses aim) = []

-- ---- the line

-- the line of a step with this number, which activity t makes in a state by this action, at op i of its code:
-- 7: activity 1 (async at 8:5) at 9:7: advance(c): signals on clock c made at 5:1: phase 0 to 1
abbrev pub clock_step_line : OpFacts → Plan → ℕ → State → ℕ → Action → ℕ → List ℕ
clock_step_line f plan number s t x i =
    decimal number ++ codes ": " ++ activity_words f.of_text t ++ codes " at " ++ clock_whence_words f (slice_get (code_of plan t) i) (clock_op_origin f t i)
    ++ codes ": " ++ clock_change_words f.of_text s t (clock_op_origin f t i) x ++ codes "\n"
