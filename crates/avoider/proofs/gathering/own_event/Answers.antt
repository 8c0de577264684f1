use Rattle.std.proofs.Common.{◌≡◌, ℕ, Some, None, sym, refl, ◌∙◌}
use Rattle.armus_base.specs.Plans.{Blocks}
use Rattle.board.specs.calls.Seats.{aim_at}
use Rattle.board.proofs.Seated.{member_next, own_phase_small}
use Rattle.avoider.proofs.gathering.own_event.Goals as goal

pub unreachable-requires : goal.unreachable-requires
unreachable-requires c =
    let m = member_next c.args.seat.now c.args.p.0 c.id.ensures.seat (record { action = Blocks (aim_at c.args.p.0 c.args.off); next = c.requires.next; by_member = refl }) in
    none_some m.0 (sym c.in-None.is ∙ c.phase.ensures.phase ∙ m.1)
  where
    none_some : (n : ℕ) → None ≡ Some n → ⊥
    none_some n e = cc

pub target-requires : goal.target-requires
target-requires c = own_phase_small c.args.seat.now c.args.p.0 c.in-Some.n c.id.ensures.seat (sym c.phase.ensures.phase ∙ c.in-Some.is)
