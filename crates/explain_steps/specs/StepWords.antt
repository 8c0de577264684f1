-- The words for a step: who makes it, at which statement, and what it changes.
use Rattle.std.specs.Prelude.{ℕ, ◌+◌, List, [], ◌++◌, Option, Some, None, codes, decimal}
use Rattle.armus_base.specs.declared.event.Event.{Event}
use Rattle.armus_base.specs.Plans.{Action, Advances, Blocks, Drops, Forks, Makes, Passes, Refuses, Registers}
use Rattle.armus_base.specs.States.{State, awaited}
use Rattle.pl_plan.specs.Unfolding.{Coming, a_fork, a_plain}
use Rattle.pl_syntax.specs.Tree.{adv, await, dereg, new_phaser, reg}
use Rattle.pl_syntax.specs.declared.tree.Program.{Program}
use Rattle.source_map.specs.Origins.{fork_origin, op_origin, statement_in, written_statements}
use Rattle.source_map.specs.PlaceWords.{place_words}
use Rattle.explain_facts.specs.Accounts.{Layout, end_place, statement_place}
use Rattle.explain_facts.specs.AwaitWords.{await_text}
use Rattle.explain_facts.specs.Names.{program_names}
use Rattle.explain_tasks.specs.Names.{named_phaser_words, named_task_words}
use Rattle.explain_tasks.specs.Places.{said_of}

-- ---- names

-- a task: worker, or worker (t3)
abbrev pub drawn_task_words : Program → ℕ → List ℕ
drawn_task_words p t = named_task_words (program_names p) t

-- a phaser: left, or left (p0)
abbrev pub made_phaser_words : Program → ℕ → List ℕ
made_phaser_words p q = named_phaser_words (program_names p) q

-- ---- where a step is made

-- a statement that makes an op, as it is printed, without its semicolon and its body
abbrev pub statement_words : Option Coming → List ℕ
statement_words (Some (a_plain (new_phaser x))) = x ++ codes " = newPhaser()"
statement_words (Some (a_plain (reg x y))) = codes "reg(" ++ x ++ codes ", " ++ y ++ codes ")"
statement_words (Some (a_plain (dereg x))) = codes "dereg(" ++ x ++ codes ")"
statement_words (Some (a_plain (adv x))) = codes "adv(" ++ x ++ codes ")"
statement_words (Some (a_plain (await x off))) = await_text x off
statement_words (Some (a_fork x body)) = codes "fork(" ++ x ++ codes ")"
statement_words _ = []

-- where task t makes an op that comes from this statement: 7:3: adv(left); or, where it comes from none, at the end of its code: 10:1: end
abbrev pub whence_words : Layout → Program → ℕ → Option ℕ → List ℕ
whence_words l p t (Some n) =
    place_words l.text (statement_place l n) ++ codes ": " ++ statement_words (statement_in (written_statements p.body) n)
whence_words l p t None = said_of (λ f. place_words l.text (end_place l f)) (fork_origin p t) ++ codes ": end"

-- ---- what a step changes

-- with a phase, where there is one:  with phase 2
abbrev pub with_phase_words : Option ℕ → List ℕ
with_phase_words None = []
with_phase_words (Some n) = codes " with phase " ++ decimal n

-- from this phase to the next: phase 0 to 1
abbrev pub phase_change : Option ℕ → List ℕ
phase_change None = []
phase_change (Some n) = codes "phase " ++ decimal n ++ codes " to " ++ decimal (n + 1)

-- the event that is waited for: waits for phase 1 of left
abbrev pub waits_words : Program → Option Event → List ℕ
waits_words p None = []
waits_words p (Some e) = codes "waits for phase " ++ decimal e.n ++ codes " of " ++ made_phaser_words p e.p.0

-- what task t changes in a state by this action
abbrev pub change_words : Program → State → ℕ → Action → List ℕ
change_words p s t (Makes q) = codes "makes " ++ made_phaser_words p q ++ with_phase_words (Some 0)
change_words p s t (Registers c q) = codes "registers " ++ drawn_task_words p c ++ codes " on " ++ made_phaser_words p q ++ with_phase_words (s.phases t q)
change_words p s t (Forks c) = codes "forks " ++ drawn_task_words p c
change_words p s t (Advances q) = made_phaser_words p q ++ codes ": " ++ phase_change (s.phases t q)
change_words p s t (Drops q) = codes "leaves " ++ made_phaser_words p q
change_words p s t (Blocks aim) = waits_words p (awaited (Some (Blocks aim)) (s.phases t))
change_words p s t (Passes q) = codes "goes on"
change_words p s t (Refuses aim) = []

-- ---- the line

-- the line of a step with this number, which task t makes in a state by this action, at op i of its code: 7: other at 7:3: adv(right): right: phase 0 to 1
abbrev pub shown_step_line : Layout → Program → ℕ → State → ℕ → Action → ℕ → List ℕ
shown_step_line l p number s t x i =
    decimal number ++ codes ": " ++ drawn_task_words p t ++ codes " at " ++ whence_words l p t (op_origin p t i) ++ codes ": " ++ change_words p s t x ++ codes "\n"
