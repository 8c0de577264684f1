use Rattle.std.proofs.Common.{◌≡◌, ◌||◌, ℕ, List, take}
use Rattle.monitor_members.specs.Noted.{is_noted}
use Rattle.monitor_state.specs.inside.PhaserLists.{are_here}
use Rattle.monitor_state.proofs.memberships.note_each.Given as goal

-- so far
abbrev pub invariant-loop-membership : goal.invariant-loop-membership
invariant-loop-membership l = (q : List ℕ) (n j : ℕ) → is_noted l.index q n j ≡ (is_noted l.fn.index q n j || are_here (take l.membership-index l.items) l.k q n j)
