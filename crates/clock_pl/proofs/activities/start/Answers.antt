use Rattle.std.proofs.Common.{ap, sym, subst, ◌∙◌, ◌++◌}
use Rattle.clock_pl.specs.inside.ClockCheckerSteps.{GivesClockChecker, checker_ops, innermost_alone, kept_start_at, start_ops, with_kept_activity}
use Rattle.clock_pl.proofs.Listing.{async_is}
use Rattle.clock_pl.proofs.activities.start.Goals as goal

pub returns : goal.returns
returns c =
    subst (λ o. GivesClockChecker c.add_ops.result o c.add_ops.new.checker)
    (ap (λ ops. checker_ops c.args.n ops c.push_start.new.self)
    (c.deref.ensures.value ∙ c.in_ok-ops.ensures ∙ ap (start_ops c.in_ok-c.c) (c.as_slice-2.ensures.items ∙ c.in_ok-on.ensures))
    ∙ ap (checker_ops c.args.n (start_ops c.in_ok-c.c (c.in_ok-clocks.clocks ++ innermost_alone c.args.checker.now.known.governing)))
    (c.in_ok-push_start.ensures
    ∙ ap (with_kept_activity c.in_ok-start.start) c.in_ok-start.ensures.same
    ∙ ap (λ s. with_kept_activity s c.args.checker.now)
    (c.in_ok-start.ensures.start ∙ ap (λ on. kept_start_at c.args.n c.args.body.now on c.args.checker.now.known) (c.as_slice.ensures.items ∙ c.in_ok-on.ensures)))
    ∙ sym (async_is c.args.n c.args.names.now c.args.body.now c.args.checker.now c.in_ok-clocks.clocks c.in_ok-c.c c.in_ok-clocks.ensures (sym c.in_ok-c.ensures.exact)))
    c.add_ops.ensures
