use Rattle.std.proofs.Common.{◌≡◌, Some, refl, sym, ◌∙◌, subst}
use Rattle.std.specs.Option.{IsSome}
use Rattle.board.specs.calls.Seats.{IsSeat}
use Rattle.board.specs.calls.Steps.{own_phase}
use Rattle.board.proofs.Seated.{member_next, own_phase_small}
use Rattle.board.proofs.task_seat.TaskSeat.member_phase.Goals as goal

pub unwrap-requires : goal.unwrap-requires
unwrap-requires c =
    let m = member_next c.args.self.now c.args.p.0 (subst IsSeat c.self.view_is c.self.invariant.sitting.seat) c.requires.member in
    subst IsSome (sym (c.phase.ensures.phase ∙ m.1)) refl

pub returns : goal.returns
returns c =
    let is : own_phase c.args.self.now.view c.args.p.0 ≡ Some c.unwrap.result = sym c.phase.ensures.phase ∙ c.unwrap.ensures in
    record {
      seat = c.phase.ensures.seat;
      phase = is;
      small = own_phase_small c.args.self.now c.args.p.0 c.unwrap.result (subst IsSeat c.self.view_is c.self.invariant.sitting.seat) is;
    }
