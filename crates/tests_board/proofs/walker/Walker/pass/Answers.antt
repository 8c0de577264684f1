use Rattle.std.proofs.Common.{◌∙◌, length, ap, arith}
use Rattle.armus_base.specs.Plans.{Plan}
use Rattle.board.specs.calls.Seats.{Known, event_of}
use Rattle.board.proofs.Walking.{left_passed, published_is}
use Rattle.tests_board.proofs.walker.Walker.pass.Goals as goal

pub withdraw-requires-clause-scanned : goal.withdraw-requires-clause-scanned
withdraw-requires-clause-scanned c =
    let few = c.id.ensures.seat.few in
    let plan = ap (λ (q : Plan). length q.parents) (ap (λ (k : Known). k.view.plan) c.self.view_is ∙ c.requires.made.plan) in
    let all = c.if-scanned-tasks.false in
    omega (arith, few, plan, all, c.scanned.ensures.number, c.tasks.ensures.counted)

pub invariant_of-self : goal.invariant_of-self
invariant_of-self c =
    let e = published_is _ c.requires.event in
    let is = ap event_of c.self.view_is ∙ e.1 in
    let step = c.withdraw.ensures.step e.0 is in
    record {
      free = step.same.holds ∙ c.self.invariant.free;
      left = λ undecided.
          left_passed c.self.inside.cursor c.self.inside.seat c.withdraw.new.self e.0 c.id.result.0 c.id.ensures.task (c.self.invariant.left undecided) is step;
    }
