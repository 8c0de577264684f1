-- From which statements the ops, the phasers and the tasks of a program's plan come: each from that of the visit that makes it.
-- Statements are told by their numbers, from 1 in the order in which they stand in the text.
use Rattle.std.specs.Prelude.{ℕ, ◌-◌, [], map, Option, Some, None}
use Rattle.pl_syntax.specs.declared.tree.Program.{Program}
use Rattle.pl_plan.specs.Unfolding.{Start, Visit, visits_of}
use Rattle.source_map.specs.Origins.{last_or, start_of}

-- the statement at which a task ends, by its start: that of its last visit, or where it has none, that of its fork
abbrev pub last_statement : Option Start → Option ℕ
last_statement None = None
last_statement (Some start) = Some (last_or (start.first - 1) (map (λ (m : Visit). m.statement) (visits_of start.first start.body)))

-- the statement at which task t ends; none for one that is not forked
abbrev pub end_origin : Program → ℕ → Option ℕ
end_origin program t = last_statement (start_of program t)
