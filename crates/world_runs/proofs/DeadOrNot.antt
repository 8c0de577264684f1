-- Whether a task is dead in a state can be told.
use Rattle.std.proofs.Common.{◌≡◌, ℕ, ◌<◌, Some, ◌⊎◌}
use Rattle.armus_base.specs.declared.event.Event.{Event}
use Rattle.armus_base.specs.Deadlocks.{IsAtPhase, IsDeadIn, IsPublishedOn}
use Rattle.armus_base.specs.States.{State}
use Rattle.armus_base.proofs.Impeded.{impeded_or_not}
use Rattle.adaptive.proofs.DeadOrNot.{told_dead}

module _ (s : State) (n : ℕ) (published_within : (u : ℕ) (e : Event) → s.published u ≡ Some e → u < n) (member_within : (u p m : ℕ) → s.phases u p ≡ Some m → u < n) where
  -- a task is dead, or it is not
  pub dead_or_not : (t : ℕ) → IsDeadIn s t ⊎ (IsDeadIn s t → ⊥)
  dead_or_not t = told_dead (IsPublishedOn s) (IsAtPhase s) n published_within (impeded_or_not s n member_within) t
