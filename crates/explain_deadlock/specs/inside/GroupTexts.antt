-- What is written of groups, one behind the other.
use Rattle.std.specs.Prelude.{ℕ, List, [], ◌∷◌, ◌++◌}
use Rattle.std.proofs.Common.{Global, Vec}
use Rattle.armus_base.specs.declared.ids.TaskId.{TaskId}
use Rattle.armus_base.specs.States.{Phases}
use Rattle.explain_tasks.specs.Facts.{FactsValue}
use Rattle.explain_deadlock.specs.Paragraphs.{lines_of_impeders, own_lines}
use Rattle.explain_tasks.specs.Sayings.{Said}
use Rattle.explain_tasks.specs.calls.SayingValues.{said_by}
use Rattle.explain_tasks.specs.declared.saying.Saying.{Saying}

-- what is written of each saying with its group
abbrev pub texts_in : (Said → List TaskId → List ℕ) → List Saying → List (Vec TaskId Global) → List ℕ
texts_in text [] groups = []
texts_in text (s ∷ sayings) [] = []
texts_in text (s ∷ sayings) (g ∷ groups) = text (said_by s) g.items ++ texts_in text sayings groups

-- the paragraph that says this of these tasks
abbrev pub paragraph_text : FactsValue → (ℕ → Phases) → Said → List TaskId → List ℕ
paragraph_text f phases said tasks = own_lines f said tasks ++ lines_of_impeders f phases tasks
