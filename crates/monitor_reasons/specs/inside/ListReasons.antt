-- Why a task of a list is stuck.
use Rattle.std.specs.Prelude.{◌≡◌, ℕ, Bool, List}
use Rattle.monitor_laws.specs.States.{Participant, TraceState}
use Rattle.monitor_words.specs.Reasons.{HasNoCircle, IsStuckBecause}
use Rattle.monitor_reasons.specs.Found.{reason_value}
use Rattle.monitor_reasons.specs.declared.found_reason.FoundReason.{FoundReason}

-- in each state that has the list and no circle of f, it is why f is stuck
pub record IsReasonIn (us : List Participant) (stuck : ℕ → Bool) (f : Participant) (found : FoundReason) : Type 0 where
  pub reason : (s : TraceState) → s.list ≡ us → HasNoCircle s stuck f → IsStuckBecause s stuck f (reason_value s.list found)
