use Rattle.std.proofs.Common.{◌≡◌, ◌<◌, ◌∙◌, Some, arith, drop, inl, inr, sym, ap, subst}
use Rattle.std.specs.Prelude.{IsSome}
use Rattle.armus_base.specs.Plans.{Blocks}
use Rattle.board.specs.calls.Seats.{IsOf, aim_at, event_of}
use Rattle.board.specs.calls.Views.{avoids, next_action, own_place}
use Rattle.board.specs.inside.Walking.{begins}
use Rattle.board.proofs.Walking.{before_next, is_before, next_left}
use Rattle.board_runs.specs.calls.Turns.{StandsAtAwait, Working, in_64_bits}
use Rattle.board_runs.proofs.Halting.{left_free}
use Rattle.board_runs.proofs.Passing.{has_left}
use Rattle.board_runs.proofs.task.Task.is_cut_short.Goals as goal

pub returns-then-is_some : goal.returns-then-is_some
returns-then-is_some c = λ _.
    let over : c.args.bound < in_64_bits c.args.cells.now.loads = (let t = c.if-loads-bound.false in let l = c.loads.ensures in omega arith) in
    (over, subst (λ (w : Working). StandsAtAwait w.seat) c.self.view_is (inl (subst IsSome c.event.ensures (sym c.is_some.ensures ∙ c.if-is_some.true))))

pub returns-in-Some-await_to_decide : goal.returns-in-Some-await_to_decide
returns-in-Some-await_to_decide c = λ _.
    let over : c.args.bound < in_64_bits c.args.cells.now.loads = (let t = c.if-loads-bound.false in let l = c.loads.ensures in omega arith) in
    let free = ap (λ (w : Working). w.seat.view.holds) c.self.view_is ∙ c.requires.free in
    let unrefused = ap (λ (w : Working). (own_place w.seat.view).dropped) c.self.view_is ∙ c.requires.unrefused in
    let made = subst (λ (w : Working). IsOf w.seat c.args.board.now) (sym c.self.view_is) c.requires.made in
    let left = (has_left c.self.inside c.self.invariant unrefused).1 in
    let before = is_before c.self.inside.seat c.args.self.now.seat c.id.result.0 c.self.inside.cursor _ _ c.in-Some.next (ap (λ (w : Working). w.seat) c.self.view_is)
    (left_free c.self.inside.cursor c.self.inside.seat left free) c.id.ensures.task c.id.ensures.seat (sym c.is_some.ensures ∙ c.if-is_some.false)
    (c.event.ensures ∙ ap (λ (w : Working). event_of w.seat) c.self.view_is) (next_left c.self.inside.cursor c.in-Some.next (sym c.peek.ensures.next ∙ c.in-Some.is)) in
    let awaits = c.in-Some-await_to_decide.ensures.awaits in
    let next : next_action c.self.inside.seat.view ≡ Some (Blocks (aim_at c.in-Some-await_to_decide.field-0.0.0 c.in-Some-await_to_decide.field-0.1)) =
    before_next c.in-Some.next (drop 1 c.self.inside.cursor) c.self.inside.seat before ∙ ap (λ o. Some (begins o)) awaits.0 in
    (over, subst (λ (w : Working). StandsAtAwait w.seat) c.self.view_is (inr (ap avoids made.mode ∙ awaits.1, (aim_at c.in-Some-await_to_decide.field-0.0.0 c.in-Some-await_to_decide.field-0.1, next))))
