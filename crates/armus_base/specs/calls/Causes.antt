-- When a fault may be answered: only where the object that was handed in counted one in the call.
use Rattle.std.specs.Prelude.{◌≡◌, ℕ, ◌≤◌, Result, OnErr, OnOk}
use Rattle.armus_base.specs.Causes.{counted}

-- an error adds exactly one to the count, and an answer adds none; the count never falls
pub record HasCause {T E : Type 0} (before now : ℕ) (result : Result T E) : Type 0 where
  pub later : before ≤ now
  pub once : OnErr result (now ≡ counted before)
  pub fine : OnOk result (now ≡ before)
