use Rattle.std.proofs.Common.{◌≡◌, ℕ, ◌<◌, length, true}
use Rattle.armus_base.specs.calls.StatusLists.{is_marked}
use Rattle.board.specs.calls.Steps.{own_phase}
use Rattle.phase_scan.specs.inside.Phases.{phase_in}
use Rattle.phase_scan.proofs.supposing.own_phases.Given as goal

abbrev pub invariant-loop-number : goal.invariant-loop-number
invariant-loop-number l = record {
  seat : l.seat ≡ l.initial.seat;
  count : length l.own.items ≡ length l.marks;
  phases : (p : ℕ) → p < l.number → is_marked l.marks p ≡ true → phase_in l.own.items p ≡ own_phase l.initial.seat.view p;
}
