use Rattle.std.proofs.Common.{◌≡◌}
use Rattle.armus_base.specs.Places.{members_below}
use Rattle.board.specs.calls.Steps.{own_phase}
use Rattle.board_runs.proofs.beginning.memberships.Given as goal

abbrev pub invariant-loop-p : goal.invariant-loop-p
invariant-loop-p l = record {
  same : l.seat ≡ l.initial.seat;
  counted : l.count ≡ members_below (own_phase l.initial.seat.view) l.p;
}
