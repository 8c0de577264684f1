-- What is told of tasks so far.
use Rattle.std.specs.Prelude.{◌≡◌, ℕ, ◌<◌, List, length, slice_index_or}
use Rattle.armus_base.specs.Plans.{Plan}
use Rattle.armus_base.specs.States.{State}
use Rattle.pl_syntax.specs.declared.tree.Program.{Program}
use Rattle.explain_facts.specs.Accounts.{IsTaskAccount, Layout}
use Rattle.explain_facts.specs.declared.account.TaskAccount.{TaskAccount}

-- what is known of the first n tasks
pub record AreTold (l : Layout) (p : Program) (plan : Plan) (s : State) (done : ℕ → ℕ) (n : ℕ) (accounts : List TaskAccount) : Type 0 where
  pub all : length accounts ≡ n
  pub each : (t : ℕ) (d : TaskAccount) → t < n → IsTaskAccount l p plan s done t (slice_index_or accounts t d)
