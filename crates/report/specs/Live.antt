-- The lines of live verdicts.
use Rattle.std.specs.Prelude.{ℕ, List, ◌++◌, codes, flat_map}
use Rattle.armus_base.specs.declared.status.Dead.{Dead}
use Rattle.pl_syntax.specs.Printed.{line}
use Rattle.report.specs.Words.{task_word, event_word}

-- the line of one task: dead t3 p0@1
abbrev pub live_line : Dead → List ℕ
live_line d = line (codes "dead " ++ task_word d.t.0 ++ codes " " ++ event_word d.event)

-- a line for each task, in order
abbrev pub live_text : List Dead → List ℕ
live_text fresh = flat_map live_line fresh
