use Rattle.std.proofs.Common.{subst, sym}
use Rattle.armus_base.specs.DeadLists.{IsDeadList}
use Rattle.explain_clock.specs.ClockCircles.{IsClockCircle}
use Rattle.explain_clock.proofs.Circles.{found_circle, no_circle}
use Rattle.explain_clock.proofs.circle.circle_of.Goals as goal

pub returns-in-None : goal.returns-in-None
returns-in-None c =
    let dead = subst (IsDeadList c.args.blocked.now) (sym c.as_slice.ensures.items) c.in_ok-dead.ensures in
    record {
      circle = subst (IsClockCircle c.args.blocked.now) (sym c.new.ensures.empty)
          (no_circle c.args.blocked.now c.as_slice.result.now dead (rw c.in-None.is at c.in_ok-cycle.ensures.cycle));
    }

pub returns : goal.returns
returns c =
    let dead = subst (IsDeadList c.args.blocked.now) (sym c.as_slice.ensures.items) c.in_ok-dead.ensures in
    record { circle = found_circle c.args.blocked.now c.as_slice.result.now dead c.in-Some.found (rw c.in-Some.is at c.in_ok-cycle.ensures.cycle) }
