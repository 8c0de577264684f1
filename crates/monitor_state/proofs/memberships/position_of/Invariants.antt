use Rattle.std.proofs.Common.{◌≡◌, ℕ, ◌<◌, false, get_or, List}
use Rattle.monitor_state.specs.inside.PhaserLists.{is_of_phaser}
use Rattle.monitor_state.proofs.memberships.position_of.Given as goal

-- none stands before
abbrev pub invariant-loop-at : goal.invariant-loop-at
invariant-loop-at l = (k : ℕ) (d : List ℕ × ℕ) → k < l.at → is_of_phaser l.p (get_or l.items k d) ≡ false
