-- The words for tasks and phasers: a name alone where it means one thing, and else with the number.
use Rattle.std.specs.Prelude.{ℕ, zero, suc, Bool, false, List, [], ◌∷◌, ◌++◌, ◌==◌, ◌&&◌, ◌||◌, Option, Some, None, codes, decimal, if◌then◌else◌, not, slice_get}
use Rattle.std.specs.List.{list_all}
use Rattle.std.specs.Str.{bytes_eq}
use Rattle.pl_syntax.specs.Words.{is_digit}
use Rattle.report.specs.Words.{task_word}
use Rattle.explain_facts.specs.declared.names.GivenName.{GivenName}
use Rattle.explain_facts.specs.declared.names.GivenNames.{GivenNames}

-- a digit and more digits
abbrev pub are_digits_alone : List ℕ → Bool
are_digits_alone [] = false
are_digits_alone (d ∷ rest) = list_all is_digit (d ∷ rest)

-- the form of a number of a task or a phaser: t or p, and digits
abbrev pub is_like_number : List ℕ → Bool
is_like_number [] = false
is_like_number (c ∷ digits) = (c == 116 || c == 112) && are_digits_alone digits

-- the name means one thing where this is its number: no other has it, and it looks like no number but its own
abbrev pub means_one : List ℕ → GivenName → Bool
means_one number n = n.is_sole && (bytes_eq n.name number || not (is_like_number n.name))

-- what has this number, or these, and this name: worker; worker (t3); t0, which has no name
abbrev pub named_words : List ℕ → Option GivenName → List ℕ
named_words number None = number
named_words number (Some n) = if means_one number n then n.name else n.name ++ codes " (" ++ number ++ codes ")"

-- the name of task t, by those of the tasks from 1 on
abbrev pub name_by_number : List GivenName → ℕ → Option GivenName
name_by_number names zero = None
name_by_number names (suc t) = slice_get names t

-- the name of task t
abbrev pub task_name : GivenNames → ℕ → Option GivenName
task_name names t = name_by_number names.tasks t

-- a task: worker, worker (t3), or t0
abbrev pub named_task_words : GivenNames → ℕ → List ℕ
named_task_words names t = named_words (task_word t) (task_name names t)

-- a phaser: left, or left (p0)
abbrev pub named_phaser_words : GivenNames → ℕ → List ℕ
named_phaser_words names q = named_words (codes "p" ++ decimal q) (slice_get names.phasers q)
