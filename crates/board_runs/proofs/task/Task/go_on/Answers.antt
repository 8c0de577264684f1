use Rattle.std.proofs.Common.{◌≡◌, ◌+◌, ◌∙◌, [], inl, inr, List, Result, Ok, Err, OnErr, false, drop, sym, ap, subst, arith}
use Rattle.armus_base.specs.declared.op.Op.{Op}
use Rattle.board.specs.calls.Seats.{IsOf, IsSeat, event_of}
use Rattle.board.proofs.Walking.{IsBefore, before_next, before_of_plan, is_before, left_behind, next_left}
use Rattle.board_runs.specs.inside.Attempts.{BeginsOp}
use Rattle.board_runs.specs.inside.Tasks.{HasCome, MakesSome}
use Rattle.board_runs.specs.calls.Turns.{MakesActions, EndsTurn, Working, is_done, is_refused}
use Rattle.board_runs.proofs.Goings.{acts_itself}
use Rattle.board_runs.proofs.Halting.{ends_done, left_free, no_event}
use Rattle.board_runs.proofs.Onward.{begun_come, begun_fits, begun_makes, locked_out, nothing_acts, refused_come, refused_fits, refused_makes}
use Rattle.board_runs.proofs.task.Task.go_on.Goals.{In-Some}
use Rattle.board_runs.proofs.task.Task.go_on.Goals as goal

pub returns-in_default-clause-none : goal.returns-in_default-clause-none
returns-in_default-clause-none g c = λ _.
    let idle = sym c.event.ensures ∙ no_event _ (sym c.is_some.ensures ∙ c.if-is_some.false) in
    let past = sym c.peek.ensures.next ∙ c.in_default.is in (
      acts_itself c.args.setting.now.board.now c.args.self.now (subst (λ (w : Working). IsSeat w.seat) c.self.view_is c.id-t.ensures.seat),
      inl (subst (λ (w : Working). EndsTurn w.seat w.seat) c.self.view_is (is_done (ends_done c.self.inside.cursor c.self.inside.seat
          (c.self.invariant.come.ops_are c.if-self.false) idle past))),
    )

-- the seat does not hold the lock
free : (g : _) (c : In-Some g) → c.self.inside.seat.view.holds ≡ false
free g c = ap (λ (w : Working). w.seat.view.holds) c.self.view_is ∙ c.requires.free

-- the task stands before the op, and is not refused
before : (g : _) (c : In-Some g) → IsBefore c.in-Some.op (drop 1 c.self.inside.cursor) c.self.inside.seat
before g c =
    is_before c.self.inside.seat c.args.self.now.seat c.id-t.result.0 c.self.inside.cursor _ _ c.in-Some.op (ap (λ (w : Working). w.seat) c.self.view_is)
    (left_free c.self.inside.cursor c.self.inside.seat (c.self.invariant.come.ops_are c.if-self.false) (free g c)) c.id-t.ensures.task c.id-t.ensures.seat (sym c.is_some.ensures ∙ c.if-is_some.false)
    (c.event.ensures ∙ ap (λ (w : Working). event_of w.seat) c.self.view_is) (next_left c.self.inside.cursor c.in-Some.op (sym c.peek.ensures.next ∙ c.in-Some.is))

come : (g : _) (c : In-Some g) → HasCome c.self.inside.seat c.self.inside.cursor c.self.inside.actions false
come g c = subst (HasCome c.self.inside.seat c.self.inside.cursor c.self.inside.actions) c.if-self.false c.self.invariant.come

pub begin-requires : goal.begin-requires
begin-requires g c =
    let at = (goal.at.begin-requires g c).In-Some in
    let made = subst (λ (w : Working). IsOf w.seat c.args.setting.now.board.now) (sym c.self.view_is) c.requires.made in
    record {
      ready = record {
        made = made;
        unlocked = free g at;
        next = before_next c.in-Some.op (drop 1 c.self.inside.cursor) c.self.inside.seat (before g at);
        plan = before_of_plan c.in-Some.op (drop 1 c.self.inside.cursor) c.self.inside.seat (before g at) c.args.setting.now.board.now.plan made.plan;
      };
    }

failed : {A B : Type 0} (r : Result A B) (P : Type 0) → P → OnErr r P
failed (Ok x) P p = tt
failed (Err e) P p = p

pub returns-in_err-begin-clause-err : goal.returns-in_err-begin-clause-err
returns-in_err-begin-clause-err g c =
    let at = (goal.at.returns-in_err-begin-clause-err g c).In-Some in
    let e = c.in_err-begin.ensures in
    failed c.from_residual.result _
    (subst (λ (w : Working). MakesActions c.args.setting.now.board.now [] w (record { seat = c.begin.new.seat; children = c.begin.new.children.items })) c.self.view_is
    (nothing_acts c.args.setting.now.board.now c.self.inside.cursor c.self.inside.actions c.self.inside.seat c.begin.new.seat c.self.inside.children.items
    c.begin.new.children.items c.in-Some.op _ (come g at) (before g at) e.same_children e.same))

pub returns-in-LockedOut-clause-none : goal.returns-in-LockedOut-clause-none
returns-in-LockedOut-clause-none g c = λ _.
    let at = (goal.at.returns-in-LockedOut-clause-none g c).In-Some in
    let new = c.in_ok-begin.ensures.children in
    let tried = subst (λ a. BeginsOp c.in-Some.op c.self.inside.seat c.begin.new.seat a) c.in-LockedOut.is c.in_ok-begin.ensures.begins in
    let r = locked_out c.args.setting.now.board.now c.self.inside.cursor c.self.inside.actions c.self.inside.seat c.begin.new.seat c.self.inside.children.items
    c.begin.new.children.items c.in-Some.op _ (come g at) (before g at) new.0 new.1 new.2 tried in
    let both = subst (λ (w : Working). MakesActions c.args.setting.now.board.now [] w (record { seat = c.begin.new.seat; children = c.begin.new.children.items }) × EndsTurn w.seat c.begin.new.seat)
    c.self.view_is r.0 in
    (both.0, inl both.1)

pub overflow_add-self : goal.overflow_add-self
overflow_add-self g c =
    let at = (goal.at.overflow_add-self g c).In-Some in
    let new = c.in_ok-begin.ensures.children in
    let fits = begun_fits c.args.setting.now.board.now c.self.inside.cursor c.self.inside.actions c.self.inside.seat c.begin.new.seat c.self.inside.children.items
    c.begin.new.children.items c.in-Some.op _ (come g at) (before g at) new.0 new.1 new.2 in
    let few = c.self.invariant.begun in
    omega arith

pub overflow_add-self-in-Begun : goal.overflow_add-self-in-Begun
overflow_add-self-in-Begun g c =
    let at = (goal.at.overflow_add-self-in-Begun g c).In-Some in
    let new = c.in_ok-begin.ensures.children in
    let fits = begun_fits c.args.setting.now.board.now c.self.inside.cursor c.self.inside.actions c.self.inside.seat c.begin.new.seat c.self.inside.children.items
    c.begin.new.children.items c.in-Some.op _ (come g at) (before g at) new.0 new.1 new.2 in
    omega arith

pub invariant_of-self-in-Begun : goal.invariant_of-self-in-Begun
invariant_of-self-in-Begun g c =
    let at = (goal.at.invariant_of-self-in-Begun g c).In-Some in
    let new = c.in_ok-begin.ensures.children in
    let tried = subst (λ a. BeginsOp c.in-Some.op c.self.inside.seat c.begin.new.seat a) c.in-Begun.is c.in_ok-begin.ensures.begins in
    let rest = left_behind c.next-op.result c.self.inside.cursor c.next-op.new.self c.next-op.ensures.some c.next-op.ensures.none in
    record {
      come = subst (λ (ops : List Op). HasCome c.begin.new.seat ops (c.self.inside.actions + 1) c.self.inside.refused) (sym rest)
          (subst (HasCome c.begin.new.seat (drop 1 c.self.inside.cursor) (c.self.inside.actions + 1)) (sym c.if-self.false)
          (begun_come c.args.setting.now.board.now c.self.inside.cursor c.self.inside.actions c.self.inside.seat c.begin.new.seat c.self.inside.children.items
          c.begin.new.children.items c.in-Some.op _ (come g at) (before g at) new.0 new.1 new.2 tried));
      begun = (let l = c.self.invariant.begun in omega arith);
    }

pub returns-in-Begun-clause-some : goal.returns-in-Begun-clause-some
returns-in-Begun-clause-some g c =
    let at = (goal.at.returns-in-Begun-clause-some g c).In-Some in
    let new = c.in_ok-begin.ensures.children in
    let tried = subst (λ a. BeginsOp c.in-Some.op c.self.inside.seat c.begin.new.seat a) c.in-Begun.is c.in_ok-begin.ensures.begins in
    subst (λ (w : Working). MakesSome c.args.setting.now.board.now 1 w (record { seat = c.begin.new.seat; children = c.begin.new.children.items })) c.self.view_is
    (begun_makes c.args.setting.now.board.now c.self.inside.cursor c.self.inside.actions c.self.inside.seat c.begin.new.seat c.self.inside.children.items
    c.begin.new.children.items c.in-Some.op _ (come g at) (before g at) new.0 new.1 new.2 tried)

pub overflow_add-result : goal.overflow_add-result
overflow_add-result g c =
    let at = (goal.at.overflow_add-result g c).In-Some in
    let new = c.in_ok-begin.ensures.children in
    let tried = subst (λ a. BeginsOp c.in-Some.op c.self.inside.seat c.begin.new.seat a) c.in-Refused.is c.in_ok-begin.ensures.begins in
    let fits = refused_fits c.args.setting.now.board.now c.self.inside.cursor c.self.inside.actions c.self.inside.seat c.begin.new.seat c.self.inside.children.items
    c.begin.new.children.items c.in-Some.op _ (come g at) (before g at) new.0 new.1 new.2 c.in-Refused.drops tried in
    omega arith

pub invariant_of-self-in-Refused : goal.invariant_of-self-in-Refused
invariant_of-self-in-Refused g c =
    let at = (goal.at.invariant_of-self-in-Refused g c).In-Some in
    let new = c.in_ok-begin.ensures.children in
    let tried = subst (λ a. BeginsOp c.in-Some.op c.self.inside.seat c.begin.new.seat a) c.in-Refused.is c.in_ok-begin.ensures.begins in
    record {
      come =
          refused_come c.args.setting.now.board.now c.self.inside.cursor c.self.inside.actions c.self.inside.seat c.begin.new.seat c.self.inside.children.items
          c.begin.new.children.items c.in-Some.op _ (come g at) (before g at) new.0 new.1 new.2 c.in-Refused.drops tried;
      begun = c.self.invariant.begun;
    }

pub returns-in-Refused-clause-some : goal.returns-in-Refused-clause-some
returns-in-Refused-clause-some g c =
    let at = (goal.at.returns-in-Refused-clause-some g c).In-Some in
    let new = c.in_ok-begin.ensures.children in
    let tried = subst (λ a. BeginsOp c.in-Some.op c.self.inside.seat c.begin.new.seat a) c.in-Refused.is c.in_ok-begin.ensures.begins in
    subst (λ (w : Working). MakesSome c.args.setting.now.board.now (c.in-Refused.drops + 1) w (record { seat = c.begin.new.seat; children = c.begin.new.children.items })) c.self.view_is
    (refused_makes c.args.setting.now.board.now c.self.inside.cursor c.self.inside.actions c.self.inside.seat c.begin.new.seat c.self.inside.children.items
    c.begin.new.children.items c.in-Some.op _ (come g at) (before g at) new.0 new.1 new.2 c.in-Refused.drops tried)

pub returns-then-self-clause-none : goal.returns-then-self-clause-none
returns-then-self-clause-none g c = λ _. (
  acts_itself c.args.setting.now.board.now c.args.self.now (subst (λ (w : Working). IsSeat w.seat) c.self.view_is c.id-t.ensures.seat),
  inl (subst (λ (w : Working). EndsTurn w.seat w.seat) c.self.view_is (is_refused (c.self.invariant.come.gone c.if-self.true))),
)

pub returns-then-is_cut_short-clause-none : goal.returns-then-is_cut_short-clause-none
returns-then-is_cut_short-clause-none g c = λ _. (
  acts_itself c.args.setting.now.board.now c.args.self.now (subst (λ (w : Working). IsSeat w.seat) c.self.view_is c.id-t.ensures.seat),
  inr (c.is_cut_short.ensures c.if-is_cut_short.true),
)

pub returns-then-is_some-clause-none : goal.returns-then-is_some-clause-none
returns-then-is_some-clause-none g c = λ none. (let p = c.pass.ensures.none none in (p.0, inl p.1))
