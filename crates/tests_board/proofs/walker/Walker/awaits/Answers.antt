use Rattle.std.proofs.Common.{◌∙◌, drop, Some, sym, ap, subst}
use Rattle.board.specs.calls.Seats.{Known}
use Rattle.board.specs.calls.Views.{next_action}
use Rattle.board.specs.inside.Walking.{IsActionOfPlan}
use Rattle.board.proofs.Walking.{before_next, before_of_plan, is_before, next_left}
use Rattle.tests_board.proofs.walker.Walker.awaits.Goals as goal

pub returns : goal.returns
returns c =
    let rest = drop 1 c.self.inside.cursor in
    let b = is_before c.self.inside.seat _ c.id.result.0 c.self.inside.cursor rest _ c.in_ok-op.op c.self.view_is (c.self.invariant.left c.if-self.false)
    c.id.ensures.task c.id.ensures.seat
    (sym c.is_some.ensures ∙ c.if-is_some.false) c.event.ensures (next_left c.self.inside.cursor c.in_ok-op.op (sym c.peek.ensures.next ∙ c.in_ok-op.was)) in
    record {
      next = (
        ap (λ (k : Known). next_action k.view) (sym c.self.view_is) ∙ before_next c.in_ok-op.op rest c.self.inside.seat b ∙ ap Some c.in_ok-aim.ensures,
        subst (IsActionOfPlan c.args.board.now.plan) c.in_ok-aim.ensures
            (before_of_plan c.in_ok-op.op rest c.self.inside.seat b c.args.board.now.plan (ap (λ (k : Known). k.view.plan) c.self.view_is ∙ c.requires.made.plan)),
      );
    }
