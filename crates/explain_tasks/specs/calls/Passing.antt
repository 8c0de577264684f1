-- Tasks that pass a test.
use Rattle.std.specs.Prelude.{◌≡◌, ◌<◌, ◌^◌, ℕ, Bool, List, filter}
use Rattle.armus_base.specs.declared.ids.TaskId.{TaskId}
use Rattle.armus_base.specs.Finals.{list_below}

-- what is answered of each task is what the test says
abbrev pub AnswersAsTest : (TaskId → Bool → Type 0) → (TaskId → Bool) → Type 0
AnswersAsTest answers test = (t : TaskId) (b : Bool) → t.0 < 2 ^ 32 → answers t b → b ≡ test t

-- the tasks below n that pass a test, in order of number
abbrev pub passing_below : (TaskId → Bool) → ℕ → List TaskId
passing_below test n = filter test (list_below (λ t. record { 0 = t }) n)
