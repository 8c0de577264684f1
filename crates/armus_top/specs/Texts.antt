-- The lines that the top call writes beside reports, refusals and printed programs.
use Rattle.std.specs.Prelude.{ℕ, [], ◌++◌, length, codes, decimal, sum_by}
use Rattle.armus_base.specs.Plans.{Plan}
use Rattle.pl_syntax.specs.Printed.{line}
use Rattle.program_io.specs.Texts.{Text}

-- what is written where the words are no command
abbrev pub usage_line : Text
usage_line = line (codes "usage: armus check|run|avoid|record|replay|gen|clock|pool")

-- the counts of a plan
abbrev pub plan_line : Plan → Text
plan_line plan =
    line (codes "tasks " ++ decimal (length plan.parents) ++ codes " phasers " ++ decimal (length plan.makers) ++ codes " ops "
    ++ decimal (sum_by length plan.codes))
