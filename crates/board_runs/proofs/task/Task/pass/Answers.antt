use Rattle.std.proofs.Common.{◌∙◌, [], arith, refl, ap, subst, sym}
use Rattle.std.specs.Prelude.{IsSome}
use Rattle.board.specs.calls.Seats.{event_of}
use Rattle.board.specs.calls.Views.{own_place}
use Rattle.board_runs.specs.calls.Turns.{MakesActions, EndsTurn, Working}
use Rattle.board_runs.specs.inside.Tasks.{MakesSome}
use Rattle.board_runs.proofs.Goings.{acts_alone, goes_loads}
use Rattle.board_runs.proofs.Halting.{ends_behind}
use Rattle.board_runs.proofs.Passing.{pass_loads, passes}
use Rattle.board_runs.proofs.task.Task.pass.Goals as goal

pub invariant_of-self-in-Reached : goal.invariant_of-self-in-Reached
invariant_of-self-in-Reached c =
    let p = passes c.args.board.now c.self.inside c.look_by.new.seat c.withdraw.new.self c.id.result.0 c.self.invariant (ap (λ (w : Working). w.seat.view.holds) c.self.view_is ∙ c.requires.free)
    (ap (λ (w : Working). (own_place w.seat.view).dropped) c.self.view_is ∙ c.requires.unrefused)
    c.id.ensures.task c.id.ensures.seat (subst (λ (w : Working). IsSome (event_of w.seat)) (sym c.self.view_is) c.requires.event) c.look_by.ensures.goes_on c.withdraw.ensures.step in
    p.working

pub overflow_add-self : goal.overflow_add-self
overflow_add-self c =
    let p = passes c.args.board.now c.self.inside c.look_by.new.seat c.withdraw.new.self c.id.result.0 c.self.invariant (ap (λ (w : Working). w.seat.view.holds) c.self.view_is ∙ c.requires.free)
    (ap (λ (w : Working). (own_place w.seat.view).dropped) c.self.view_is ∙ c.requires.unrefused)
    c.id.ensures.task c.id.ensures.seat (subst (λ (w : Working). IsSome (event_of w.seat)) (sym c.self.view_is) c.requires.event) c.look_by.ensures.goes_on c.withdraw.ensures.step in
    (let l = p.fits in omega arith)

pub returns-in-Behind-clause-none : goal.returns-in-Behind-clause-none
returns-in-Behind-clause-none c = λ _.
    let goes = c.look_by.ensures.goes_on in
    let cs = c.self.inside.children.items in (
      subst (λ (w : Working). MakesActions c.args.board.now [] w (record { seat = c.look_by.new.seat; children = cs })) c.self.view_is
          (acts_alone c.args.board.now [] c.self.inside.seat c.look_by.new.seat cs refl (goes_loads c.self.inside.seat c.look_by.new.seat c.id.result.0 c.id.ensures.task c.id.ensures.seat goes) (λ _. refl)),
      subst (λ (w : Working). EndsTurn w.seat c.look_by.new.seat) c.self.view_is (ends_behind c.self.inside.seat c.look_by.new.seat c.in-Behind.t.0 c.in-Behind.phase c.id.ensures.seat goes c.in-Behind.ensures.answer),
    )

pub returns-in-Reached-clause-some : goal.returns-in-Reached-clause-some
returns-in-Reached-clause-some c =
    let p = passes c.args.board.now c.self.inside c.look_by.new.seat c.withdraw.new.self c.id.result.0 c.self.invariant (ap (λ (w : Working). w.seat.view.holds) c.self.view_is ∙ c.requires.free)
    (ap (λ (w : Working). (own_place w.seat.view).dropped) c.self.view_is ∙ c.requires.unrefused)
    c.id.ensures.task c.id.ensures.seat (subst (λ (w : Working). IsSome (event_of w.seat)) (sym c.self.view_is) c.requires.event) c.look_by.ensures.goes_on c.withdraw.ensures.step in
    subst (λ (w : Working). MakesSome c.args.board.now 1 w (record { seat = c.withdraw.new.self; children = c.self.inside.children.items })) c.self.view_is p.some

pub returns-in-Behind-clause-counted : goal.returns-in-Behind-clause-counted
returns-in-Behind-clause-counted c =
    (let e = ap (λ (w : Working). w.seat.view.loads) c.self.view_is in let n = c.look_by.ensures.counted in omega arith)

pub returns-in-Reached-clause-counted : goal.returns-in-Reached-clause-counted
returns-in-Reached-clause-counted c =
    (let e = ap (λ (w : Working). w.seat.view.loads) c.self.view_is in
    let n = c.look_by.ensures.counted in
    let l =
    pass_loads c.self.inside.seat c.look_by.new.seat c.withdraw.new.self (subst (λ (w : Working). IsSome (event_of w.seat)) (sym c.self.view_is) c.requires.event)
    c.look_by.ensures.goes_on c.withdraw.ensures.step in
    omega arith)
