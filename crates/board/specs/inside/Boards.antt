-- What is true of each board.
use Rattle.std.specs.Prelude.{◌≡◌, length}
use Rattle.armus_base.specs.CheckedPlans.{IsCheckedPlan}
use Rattle.board.specs.declared.board.Board.TheInside.{Inside}
use Rattle.board.specs.calls.Words.{word_count}

-- its fields say what its table was told, and it has all words
pub record IsBoard (b : Inside) : Type 0 where
  pub setting : b.setting ≡ b.cells.shared.key
  pub checked : IsCheckedPlan b.cells.shared.key.plan.value
  pub tasks : b.tasks ≡ length b.cells.shared.key.plan.value.parents
  pub phasers : b.phasers ≡ length b.cells.shared.key.plan.value.makers
  pub words : b.cells.shared.table_id.words ≡ word_count b.cells.shared.key.plan.value
  pub no_slot : b.cells.shared.table_id.slots ≡ 0
