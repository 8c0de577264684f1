-- With what each task of a program is forked, at the end of the unfolding, and what `unfold` answers.
use Rattle.std.specs.Prelude.{ℕ, ◌-◌, List, [], map, Option, Some, None, Ok, Err}
use Rattle.armus_base.specs.Limits.{max_tasks}
use Rattle.pl_syntax.specs.declared.tree.Program.{Program}
use Rattle.pl_plan.specs.Unfolding.{Outcome, Start, UnfoldingState, opening_state, unfold_tasks}

-- the starts of a state; at a fault there are none
abbrev pub starts_in : Outcome UnfoldingState → List (Option Start)
starts_in (Ok s) = s.starts
starts_in (Err f) = []

-- the starts of a program's tasks, in order of number
unfoldable pub starts_of : Program → List (Option Start)
starts_of program = starts_in (unfold_tasks program.two max_tasks 0 (opening_state program.body))

-- the number of the statement that forks a task, by its start: the one before its body, which is 0 for task 0; none for a task that is not forked
abbrev pub fork_of : Option Start → Option ℕ
fork_of None = None
fork_of (Some start) = Some (start.first - 1)

-- the forks of a program's tasks, in order of number
abbrev pub fork_statements : Program → List (Option ℕ)
fork_statements program = map fork_of (starts_of program)
