-- Tasks and phasers, as they stand in sentences.
use Rattle.std.specs.Prelude.{ℕ, ◌==◌, if◌then◌else◌, List, [], ◌∷◌, ◌++◌, codes, decimal}
use Rattle.explain_check.specs.declared.scene.NamedPhaser.{NamedPhaser}
use Rattle.explain_check.specs.declared.scene.NamedTask.{NamedTask}

-- a name behind a number
abbrev pub in_parentheses : List ℕ → List ℕ
in_parentheses name = codes " (" ++ name ++ codes ")"

-- a letter and a number
abbrev pub number_words : ℕ → ℕ → List ℕ
number_words letter n = letter ∷ decimal n

-- a task: t0, or t1 (t)
abbrev pub task_words : NamedTask → List ℕ
task_words task = number_words 116 task.t.0 ++ (if task.t.0 == 0 then [] else in_parentheses task.name)

-- a phaser: p0 (b)
abbrev pub phaser_words : NamedPhaser → List ℕ
phaser_words phaser = number_words 112 phaser.p.0 ++ in_parentheses phaser.name
