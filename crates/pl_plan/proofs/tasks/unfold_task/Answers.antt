use Rattle.std.proofs.Common.{Ok, Err, arith, sym, ◌∙◌, ap}
use Rattle.std.proofs.lemmas.Result.{err_from_is_err_and}
use Rattle.pl_plan.proofs.Beginning.{busy, kept_begun, ends_err, ends_plainly, ends_by_leaving, ends_full}
use Rattle.pl_plan.proofs.tasks.unfold_task.Goals as goal

pub walk-requires-clause-fits : goal.walk-requires-clause-fits
walk-requires-clause-fits c = (kept_begun c.args.checker.now c.begin.new.self c.args.t.0 c.requires.fits c.in_ok-first.ensures.begun).fits

pub returns-in_err-walk-clause-follows : goal.returns-in_err-walk-clause-follows
returns-in_err-walk-clause-follows c =
    λ names s h.
    let p = err_from_is_err_and c.from_residual-in_err-walk.result c.from_residual-in_err-walk.ensures.1 in
    busy c.args.two names c.args.checker.now c.begin.new.self c.walk.new.checker s c.args.t.0 c.in-Some.first c.in-Some.after c.from_residual-in_err-walk.result
    (sym c.in-Some.is ∙ c.in_ok-first.ensures.range) c.in_ok-first.ensures.begun h
    (λ s tree spelled shows.
    ends_err c.args.two c.args.t.0 c.in-Some.first c.in_err-walk.field-0.0 _ _ _ c.from_residual-in_err-walk.result (p.1 ∙ ap Err p.2)
    (c.in_err-walk.ensures.follows names s tree spelled shows))

pub returns-in_err-leave_all-clause-follows : goal.returns-in_err-leave_all-clause-follows
returns-in_err-leave_all-clause-follows c =
    λ names s h.
    let p = err_from_is_err_and c.from_residual-in_err-leave_all.result c.from_residual-in_err-leave_all.ensures.1 in
    busy c.args.two names c.args.checker.now c.begin.new.self c.leave_all.new.checker s c.args.t.0 c.in-Some.first c.in-Some.after c.from_residual-in_err-leave_all.result
    (sym c.in-Some.is ∙ c.in_ok-first.ensures.range) c.in_ok-first.ensures.begun h
    (λ s tree spelled shows.
    ends_full c.args.two names c.walk.new.checker c.leave_all.new.checker c.args.t.0 c.in-Some.first _ c.in_ok-walk.field-0 c.in_err-leave_all.field-0.0
    c.from_residual-in_err-leave_all.result (p.1 ∙ ap Err p.2) c.if-two.true c.in_ok-walk.ensures.keeps.fits
    (omega (
      arith,
      c.requires.task,
      c.in_ok-walk.ensures.keeps.more,
      (kept_begun c.args.checker.now c.begin.new.self c.args.t.0 c.requires.fits c.in_ok-first.ensures.begun).more,
    ))
    (c.in_ok-walk.ensures.follows names s tree spelled shows) c.in_err-leave_all.ensures.leaves _)

pub returns-in_ok-leave_all-clause-follows : goal.returns-in_ok-leave_all-clause-follows
returns-in_ok-leave_all-clause-follows c =
    λ names s h.
    busy c.args.two names c.args.checker.now c.begin.new.self c.leave_all.new.checker s c.args.t.0 c.in-Some.first c.in-Some.after (Ok tt)
    (sym c.in-Some.is ∙ c.in_ok-first.ensures.range) c.in_ok-first.ensures.begun h
    (λ s tree spelled shows.
    ends_by_leaving c.args.two names c.walk.new.checker c.leave_all.new.checker c.args.t.0 c.in-Some.first _ c.in_ok-walk.field-0 tt c.if-two.true
    c.in_ok-walk.ensures.keeps.fits (omega (
      arith,
      c.requires.task,
      c.in_ok-walk.ensures.keeps.more,
      (kept_begun c.args.checker.now c.begin.new.self c.args.t.0 c.requires.fits c.in_ok-first.ensures.begun).more,
    ))
    (c.in_ok-walk.ensures.follows names s tree spelled shows) c.in_ok-leave_all.ensures.leaves)

pub returns-else-two-clause-follows : goal.returns-else-two-clause-follows
returns-else-two-clause-follows c =
    λ names s h.
    busy c.args.two names c.args.checker.now c.begin.new.self c.walk.new.checker s c.args.t.0 c.in-Some.first c.in-Some.after (Ok tt)
    (sym c.in-Some.is ∙ c.in_ok-first.ensures.range) c.in_ok-first.ensures.begun h
    (λ s tree spelled shows.
    ends_plainly c.args.two c.args.t.0 c.in-Some.first _ _ (Ok tt) c.if-two.false (c.in_ok-walk.ensures.follows names s tree spelled shows))
