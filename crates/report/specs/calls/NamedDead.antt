-- Lists of dead tasks, each named once with its event.
use Rattle.std.specs.Prelude.{ℕ, List, ◌++◌}
use Rattle.armus_base.specs.declared.status.Dead.{Dead}
use Rattle.armus_base.specs.declared.status.Status.{Status}
use Rattle.report.specs.NamedDead.{AreSomeDead, AreTheDead}

-- some dead tasks are the first of a list of all
abbrev pub SomeDeadExtend : Type 0
SomeDeadExtend = (blocked : List Status) (named : List Dead) → AreSomeDead blocked named → (more : List Dead) × AreTheDead blocked (named ++ more)
