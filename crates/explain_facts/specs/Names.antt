-- The names of the tasks and the phasers of a program, and which of them no other has.
use Rattle.std.specs.Prelude.{ℕ, Bool, List, [], ◌++◌, Option, Some, filter, length, map, nat_lt, not}
use Rattle.std.specs.Str.{bytes_eq}
use Rattle.pl_plan.specs.Unfolding.{Coming, a_plain}
use Rattle.pl_syntax.specs.Tree.{new_phaser, new_task}
use Rattle.pl_syntax.specs.declared.tree.Program.{Program}
use Rattle.source_map.specs.Origins.{phaser_origins, statement_in, task_origins, written_statements}
use Rattle.explain_facts.specs.declared.names.GivenName.{GivenName}
use Rattle.explain_facts.specs.declared.names.GivenNames.{GivenNames}

-- the name that a statement gives to a task or a phaser
abbrev pub given_name : Option Coming → List ℕ
given_name (Some (a_plain (new_task x))) = x
given_name (Some (a_plain (new_phaser x))) = x
given_name _ = []

-- the names that these statements of a program give
abbrev pub names_given : Program → List ℕ → List (List ℕ)
names_given p statements = map (λ n. given_name (statement_in (written_statements p.body) n)) statements

-- the names of all tasks but task 0, which has none, and of all phasers
abbrev pub all_names : Program → List (List ℕ)
all_names p = names_given p (task_origins p) ++ names_given p (phaser_origins p)

-- no two of these names are this one
abbrev pub is_sole : List (List ℕ) → List ℕ → Bool
is_sole all x = not (nat_lt 1 (length (filter (bytes_eq x) all)))

-- a name, and whether it is the sole one of these
abbrev pub named_among : List (List ℕ) → List ℕ → GivenName
named_among all x = record { name = x; is_sole = is_sole all x }

-- the names of the tasks from 1 on and of the phasers, in order of number
abbrev pub program_names : Program → GivenNames
program_names p =
    record {
      tasks = map (named_among (all_names p)) (names_given p (task_origins p));
      phasers = map (named_among (all_names p)) (names_given p (phaser_origins p));
    }
