-- What is true of the words of a closed board.
use Rattle.std.specs.Prelude.{◌≡◌, length}
use Rattle.std.specs.Mem.Slots.{slots_items, slots_len, IsFull}
use Rattle.armus_base.specs.CheckedPlans.{IsCheckedPlan}
use Rattle.board.specs.declared.words.Words.TheInside.{Inside}
use Rattle.board.specs.calls.Closing.{AreLawful}
use Rattle.board.specs.calls.Words.{word_count}

-- there are all words, they are those of a lawful state, and the count of tasks is the plan's
pub record IsEndedBoard (w : Inside) : Type 0 where
  pub full : IsFull w.closed.words
  pub count : slots_len w.closed.words ≡ word_count w.setting.plan.value
  pub no_slot : slots_len w.closed.slots ≡ 0
  pub checked : IsCheckedPlan w.setting.plan.value
  pub tasks : w.tasks ≡ length w.setting.plan.value.parents
  pub lawful : AreLawful w.setting.plan.value w.setting.mode (slots_items w.closed.words)
