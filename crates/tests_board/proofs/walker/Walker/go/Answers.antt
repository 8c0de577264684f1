use Rattle.std.proofs.Common.{◌∙◌, drop, sym, ap, subst}
use Rattle.board.specs.calls.Seats.{Known}
use Rattle.board.specs.inside.Walking.{HasLeft}
use Rattle.board.proofs.Walking.{IsBefore, before_next, before_of_plan, is_before, left_begun, left_behind, next_left}
use Rattle.tests_board.proofs.walker.Walker.go.Goals.{In-Some}
use Rattle.tests_board.proofs.walker.Walker.go.Goals as goal

before : (c : In-Some) → IsBefore c.in-Some.op (drop 1 c.self.inside.cursor) c.self.inside.seat
before c =
    is_before c.self.inside.seat c.args.self.now c.id.result.0 c.self.inside.cursor _ _ c.in-Some.op c.self.view_is (c.self.invariant.left c.if-self.false)
    c.id.ensures.task c.id.ensures.seat
    (sym c.is_some.ensures ∙ c.if-is_some.false) c.event.ensures (next_left c.self.inside.cursor c.in-Some.op (sym c.peek.ensures.next ∙ c.in-Some.is))

pub make_step-requires-clause-next : goal.make_step-requires-clause-next
make_step-requires-clause-next c =
    let at = (goal.at.make_step-requires-clause-next c).In-Some in before_next at.in-Some.op (drop 1 at.self.inside.cursor) at.self.inside.seat (before at)

pub make_step-requires-clause-plan : goal.make_step-requires-clause-plan
make_step-requires-clause-plan c =
    let at = (goal.at.make_step-requires-clause-plan c).In-Some in
    before_of_plan at.in-Some.op (drop 1 at.self.inside.cursor) at.self.inside.seat (before at) c.args.board.now.plan
    (ap (λ (k : Known). k.view.plan) c.self.view_is ∙ c.requires.made.plan)

pub invariant_of-self : goal.invariant_of-self
invariant_of-self c =
    let at = (goal.at.invariant_of-self c).In-Some in
    let left = subst (λ ops. HasLeft ops c.make_step.new.seat)
    (sym (left_behind c.next-op.result c.self.inside.cursor c.next-op.new.self c.next-op.ensures.some c.next-op.ensures.none))
    (left_begun at.in-Some.op (drop 1 at.self.inside.cursor) at.self.inside.seat c.make_step.new.seat (before at) c.make_step.ensures.step) in
    record { free = left.free; left = λ undecided. left }
