-- States: who is forked, which phasers are made, who is a member where and at which phase, who is published or refused.
use Rattle.std.specs.Prelude.{◌≡◌, ℕ, ◌<◌, ◌≤◌, Some}
use Rattle.armus_base.specs.declared.event.Event.{Event}
use Rattle.armus_base.specs.States.{State}

-- every member of the event's phaser with a number below k has its phase at least
abbrev pub IsReachedBelow : State → ℕ → Event → Type 0
IsReachedBelow s k e = (u m : ℕ) → u < k → s.phases u e.p.0 ≡ Some m → e.n ≤ m
