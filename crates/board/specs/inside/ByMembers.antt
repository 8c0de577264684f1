-- What only a member of a phaser does.
use Rattle.std.specs.Prelude.{◌≡◌, ℕ, Some}
use Rattle.armus_base.specs.Plans.{Action, Registers, Advances, Blocks}
use Rattle.board.specs.calls.Views.{next_action}
use Rattle.board.specs.calls.Seats.{Known}

-- only a member of p does this
abbrev pub IsByMember : Action → ℕ → Type 0
IsByMember (Registers c q) p = q ≡ p
IsByMember (Advances q) p = q ≡ p
IsByMember (Blocks a) p = a.phaser ≡ p
IsByMember x p = ⊥

-- what comes next is something that only a member of p does
pub record NeedsMember (seat : Known) (p : ℕ) : Type 0 where
  pub action : Action
  pub next : next_action seat.view ≡ Some action
  pub by_member : IsByMember action p
