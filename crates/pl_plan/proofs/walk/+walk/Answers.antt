use Rattle.std.proofs.Common.{◌+◌, length, List, Err, arith, ◌∙◌, ap}
use Rattle.std.proofs.lemmas.Result.{err_from_is_err_and}
use Rattle.pl_plan.proofs.Walks.{on_start, on_ended}
use Rattle.pl_plan.proofs.Ahead as a
use Rattle.pl_plan.proofs.walk.+walk.Goals as goal

pub walk-loop-at-init : goal.walk-loop-at-init
walk-loop-at-init t c = on_start (length c.args.checker.now.bindings.slots) c.args.to c.args.t.0 c.args.checker.now.steps c.args.from c.args.checker.now c.requires.fits c.requires.list

pub walk-returns-in_err-count_visit-clause-follows : goal.walk-returns-in_err-count_visit-clause-follows
walk-returns-in_err-count_visit-clause-follows t c =
    let p = err_from_is_err_and c.from_residual.result c.from_residual.ensures.1 in
    a.ahead_count_fails c.args.from c.args.to c.args.t.0 c.args.checker.now c.loop-at.at c.loop-at.checker c.requires.task c.loop-at.invariant
    c.loop-at-test.true c.in_err-count_visit.field-0.0 _ _ c.in_err-count_visit.ensures c.from_residual.result (p.1 ∙ ap Err p.2)

pub walk-walk_turns-requires : goal.walk-walk_turns-requires
walk-walk_turns-requires t c =
    let r = a.ahead_loop_bounds c.args.from c.args.to c.args.t.0 c.args.checker.now c.loop-at.at c.loop-at.checker c.requires.task c.loop-at.invariant
    c.loop-at-test.true c.count_visit.new.checker c.in_ok-count_visit.ensures c.in-Loop.k c.in-Loop.after c.in-Loop.steady c.in-Loop.ensures in
    let l = a.ahead_loop_list c.args.from c.args.to c.args.t.0 c.args.checker.now c.loop-at.at c.loop-at.checker c.requires.task c.loop-at.invariant
    c.loop-at-test.true c.count_visit.new.checker c.in_ok-count_visit.ensures c.in-Loop.k c.in-Loop.after c.in-Loop.steady c.in-Loop.ensures in
    let f = a.fits1 c.args.from c.args.to c.args.t.0 c.args.checker.now c.loop-at.at c.loop-at.checker c.requires.task c.loop-at.invariant c.loop-at-test.true
    c.count_visit.new.checker c.in_ok-count_visit.ensures in
    let u = a.run1 c.args.from c.args.to c.args.t.0 c.args.checker.now c.loop-at.at c.loop-at.checker c.requires.task c.loop-at.invariant c.loop-at-test.true
    c.count_visit.new.checker c.in_ok-count_visit.ensures in
    let e = ap (λ (z : List _). length z) (a.steps1 c.args.from c.args.to c.args.t.0 c.args.checker.now c.loop-at.at c.loop-at.checker c.requires.task
    c.loop-at.invariant c.loop-at-test.true c.count_visit.new.checker c.in_ok-count_visit.ensures) in
    let w = c.loop-at.invariant.forward in
    (omega arith, (f, (omega (arith, c.requires.small), (u, (r.0, (omega (arith, c.requires.within), l))))))

pub walk-returns-in_err-walk_turns-in-Loop-clause-follows : goal.walk-returns-in_err-walk_turns-in-Loop-clause-follows
walk-returns-in_err-walk_turns-in-Loop-clause-follows t c =
    let p = err_from_is_err_and c.from_residual-in_err-walk_turns-in-Loop.result c.from_residual-in_err-walk_turns-in-Loop.ensures.1 in
    a.ahead_loop_fails c.args.from c.args.to c.args.t.0 c.args.checker.now c.loop-at.at c.loop-at.checker c.requires.task c.loop-at.invariant
    c.loop-at-test.true c.count_visit.new.checker c.in_ok-count_visit.ensures c.in-Loop.k c.in-Loop.after c.in-Loop.steady c.in-Loop.ensures
    c.in_err-walk_turns-in-Loop.field-0.0 c.walk_turns.new.checker _ c.in_err-walk_turns-in-Loop.ensures.follows c.from_residual-in_err-walk_turns-in-Loop.result (p.1 ∙ ap Err p.2)

pub walk-loop-at-smaller-in-Loop : goal.walk-loop-at-smaller-in-Loop
walk-loop-at-smaller-in-Loop t c =
    let r = a.ahead_loop_bounds c.args.from c.args.to c.args.t.0 c.args.checker.now c.loop-at.at c.loop-at.checker c.requires.task c.loop-at.invariant
    c.loop-at-test.true c.count_visit.new.checker c.in_ok-count_visit.ensures c.in-Loop.k c.in-Loop.after c.in-Loop.steady c.in-Loop.ensures in
    omega (arith, r.0, r.1)

pub walk-loop-at-preserved-in-Loop : goal.walk-loop-at-preserved-in-Loop
walk-loop-at-preserved-in-Loop t c =
    a.ahead_loop c.args.from c.args.to c.args.t.0 c.args.checker.now c.loop-at.at c.loop-at.checker c.requires.task c.loop-at.invariant c.loop-at-test.true
    c.count_visit.new.checker c.in_ok-count_visit.ensures c.in-Loop.k c.in-Loop.after c.in-Loop.steady c.in-Loop.ensures
    c.walk_turns.new.checker c.in_ok-walk_turns-in-Loop.ensures.keeps c.in_ok-walk_turns-in-Loop.ensures.follows

pub walk-fork-requires-clause-fits : goal.walk-fork-requires-clause-fits
walk-fork-requires-clause-fits t c = a.fits1 c.args.from c.args.to c.args.t.0 c.args.checker.now c.loop-at.at c.loop-at.checker c.requires.task
    c.loop-at.invariant c.loop-at-test.true c.count_visit.new.checker c.in_ok-count_visit.ensures

pub walk-fork-requires-clause-task : goal.walk-fork-requires-clause-task
walk-fork-requires-clause-task t c = a.run1 c.args.from c.args.to c.args.t.0 c.args.checker.now c.loop-at.at c.loop-at.checker c.requires.task
    c.loop-at.invariant c.loop-at-test.true c.count_visit.new.checker c.in_ok-count_visit.ensures

pub walk-fork-requires-clause-here : goal.walk-fork-requires-clause-here
walk-fork-requires-clause-here t c =
    let r = a.ahead_bounds c.args.from c.args.to c.args.t.0 c.args.checker.now c.loop-at.at c.loop-at.checker c.requires.task c.loop-at.invariant
    c.loop-at-test.true c.count_visit.new.checker c.in_ok-count_visit.ensures c.in-Fork.x c.in-Fork.after c.in-Fork.ensures c.requires.within in
    r.0

pub walk-returns-in_err-fork-in-Fork-clause-follows : goal.walk-returns-in_err-fork-in-Fork-clause-follows
walk-returns-in_err-fork-in-Fork-clause-follows t c =
    let p = err_from_is_err_and c.from_residual-in_err-fork-in-Fork.result c.from_residual-in_err-fork-in-Fork.ensures.1 in
    a.ahead_fork_fails c.args.from c.args.to c.args.t.0 c.args.checker.now c.loop-at.at c.loop-at.checker c.requires.task c.loop-at.invariant
    c.loop-at-test.true c.count_visit.new.checker c.in_ok-count_visit.ensures c.in-Fork.x c.in-Fork.after c.in-Fork.ensures c.requires.within
    c.in_err-fork-in-Fork.field-0.0 c.fork.new.checker _ c.in_err-fork-in-Fork.ensures c.from_residual-in_err-fork-in-Fork.result (p.1 ∙ ap Err p.2)

pub walk-loop-at-smaller-in-Fork : goal.walk-loop-at-smaller-in-Fork
walk-loop-at-smaller-in-Fork t c =
    let r = a.ahead_bounds c.args.from c.args.to c.args.t.0 c.args.checker.now c.loop-at.at c.loop-at.checker c.requires.task c.loop-at.invariant
    c.loop-at-test.true c.count_visit.new.checker c.in_ok-count_visit.ensures c.in-Fork.x c.in-Fork.after c.in-Fork.ensures c.requires.within in
    omega (arith, r.1, r.2)

pub walk-loop-at-preserved-in-Fork : goal.walk-loop-at-preserved-in-Fork
walk-loop-at-preserved-in-Fork t c =
    a.ahead_fork c.args.from c.args.to c.args.t.0 c.args.checker.now c.loop-at.at c.loop-at.checker c.requires.task c.loop-at.invariant c.loop-at-test.true
    c.count_visit.new.checker c.in_ok-count_visit.ensures c.in-Fork.x c.in-Fork.after c.in-Fork.ensures c.requires.within
    c.fork.new.checker c.in_ok-fork-in-Fork.ensures

pub walk-act-requires : goal.walk-act-requires
walk-act-requires t c = record {
  fits = a.fits1 c.args.from c.args.to c.args.t.0 c.args.checker.now c.loop-at.at c.loop-at.checker c.requires.task c.loop-at.invariant c.loop-at-test.true
      c.count_visit.new.checker c.in_ok-count_visit.ensures;
  task = a.run1 c.args.from c.args.to c.args.t.0 c.args.checker.now c.loop-at.at c.loop-at.checker c.requires.task c.loop-at.invariant c.loop-at-test.true
      c.count_visit.new.checker c.in_ok-count_visit.ensures;
  here = a.ahead_names c.args.from c.args.to c.args.t.0 c.args.checker.now c.loop-at.at c.loop-at.checker c.requires.task c.loop-at.invariant
      c.loop-at-test.true c.count_visit.new.checker c.in_ok-count_visit.ensures c.step-step.result c.step-step.ensures
      (a.plain_is c.step-step.result c.in_default.not-Fork c.in_default.not-Loop);
}

pub walk-returns-in_err-act-in_default-clause-follows : goal.walk-returns-in_err-act-in_default-clause-follows
walk-returns-in_err-act-in_default-clause-follows t c =
    let p = err_from_is_err_and c.from_residual-in_err-act-in_default.result c.from_residual-in_err-act-in_default.ensures.1 in
    a.ahead_plain_fails c.args.from c.args.to c.args.t.0 c.args.checker.now c.loop-at.at c.loop-at.checker c.requires.task c.loop-at.invariant
    c.loop-at-test.true c.count_visit.new.checker c.in_ok-count_visit.ensures c.step-step.result c.step-step.ensures
    (a.plain_is c.step-step.result c.in_default.not-Fork c.in_default.not-Loop)
    c.in_err-act-in_default.field-0.0 c.act.new.checker _ c.in_err-act-in_default.ensures c.from_residual-in_err-act-in_default.result (p.1 ∙ ap Err p.2)

pub walk-loop-at-preserved : goal.walk-loop-at-preserved
walk-loop-at-preserved t c =
    a.ahead_plain c.args.from c.args.to c.args.t.0 c.args.checker.now c.loop-at.at c.loop-at.checker c.requires.task c.loop-at.invariant c.loop-at-test.true
    c.count_visit.new.checker c.in_ok-count_visit.ensures c.step-step.result c.step-step.ensures
    (a.plain_is c.step-step.result c.in_default.not-Fork c.in_default.not-Loop) c.act.new.checker c.in_ok-act-in_default.ensures

pub walk-returns-clause-follows : goal.walk-returns-clause-follows
walk-returns-clause-follows t c = λ names s tree sp h. on_ended (length c.args.checker.now.bindings.slots) c.args.to c.args.t.0 c.args.checker.now.steps c.args.from
    c.args.checker.now c.loop-at.at c.loop-at.checker names s tree c.loop-at-test.false sp h c.loop-at.invariant

pub walk_turns-returns-in_err-count_visit-clause-follows : goal.walk_turns-returns-in_err-count_visit-clause-follows
walk_turns-returns-in_err-count_visit-clause-follows t c =
    let p = err_from_is_err_and c.from_residual.result c.from_residual.ensures.1 in
    a.turn_count_fails c.args.at c.args.after c.args.t.0 c.args.turns c.args.checker.now c.loop.counter c.loop.checker c.loop.invariant c.loop-test.true
    c.in_err-count_visit.field-0.0 c.count_visit.new.checker _ c.in_err-count_visit.ensures c.from_residual.result (p.1 ∙ ap Err p.2)

pub walk_turns-walk-requires : goal.walk_turns-walk-requires
walk_turns-walk-requires t c =
    let k = a.turn_kept c.args.at c.args.after c.args.t.0 c.args.turns c.args.checker.now c.loop.counter c.loop.checker c.loop.invariant c.loop-test.true
    c.count_visit.new.checker c.in_ok-count_visit.ensures in
    let e = ap (λ (z : List _). length z) k.steps in (
      omega arith,
      (
        k.fits,
        (
          omega (arith, c.requires.small),
          (
            omega (arith, k.more, c.requires.task),
            (
              omega (arith, c.requires.within),
              (
                c.requires.list.0,
                c.requires.list.1,
                a.turn_spelled c.args.checker.now c.count_visit.new.checker c.requires.list.0 (c.args.at + 1) c.requires.list.1
                    c.args.after k c.requires.list.2,
              ),
            ),
          ),
        ),
      ),
    )

pub walk_turns-returns-in_err-walk-clause-follows : goal.walk_turns-returns-in_err-walk-clause-follows
walk_turns-returns-in_err-walk-clause-follows t c =
    let p = err_from_is_err_and c.from_residual-in_err-walk.result c.from_residual-in_err-walk.ensures.1 in
    a.turn_fails c.args.at c.args.after c.args.t.0 c.args.turns c.args.checker.now c.loop.counter c.loop.checker c.loop.invariant c.loop-test.true
    c.count_visit.new.checker c.in_ok-count_visit.ensures
    c.in_err-walk.field-0.0 c.walk.new.checker _ c.in_err-walk.ensures.follows c.from_residual-in_err-walk.result (p.1 ∙ ap Err p.2)

pub walk_turns-loop-preserved : goal.walk_turns-loop-preserved
walk_turns-loop-preserved t c =
    a.turn_on c.args.at c.args.after c.args.t.0 c.args.turns c.args.checker.now c.loop.counter c.loop.checker c.loop.invariant c.loop-test.true
    c.count_visit.new.checker c.in_ok-count_visit.ensures
    c.walk.new.checker c.in_ok-walk.ensures.keeps c.in_ok-walk.ensures.follows

pub walk_turns-returns-clause-follows : goal.walk_turns-returns-clause-follows
walk_turns-returns-clause-follows t c = a.turns_done c.args.at c.args.after c.args.t.0 c.args.turns c.args.checker.now c.loop.counter c.loop.checker
    c.loop.invariant c.loop-test.false
