-- What contracts see of the words of a closed board.
use Rattle.std.specs.Prelude.{ℕ, List}
use Rattle.std.specs.Mem.Slots.{slots_items}
use Rattle.armus_base.specs.Plans.{Plan}
use Rattle.board.specs.declared.mode.Mode.{Mode}
use Rattle.board.specs.declared.words.Words.TheInside.{Inside}

-- the plan, what the board was for, and its words
pub record Ended : Type 0 where
  pub plan : Plan
  pub mode : Mode
  pub words : List ℕ

-- what contracts see of it
abbrev pub ended_value : Inside → Ended
ended_value w = record { plan = w.setting.plan.value; mode = w.setting.mode; words = slots_items w.closed.words }
