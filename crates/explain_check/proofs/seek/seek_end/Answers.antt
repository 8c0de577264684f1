use Rattle.std.proofs.Common.{◌≡◌, Ok, arith, refl, subst}
use Rattle.explain_check.specs.inside.Seeks.{Leaving}
use Rattle.explain_check.specs.inside.Seen.{VisitGives}
use Rattle.pl_plan.specs.inside.CheckerSteps.{checker_leave}
use Rattle.explain_check.proofs.SoughtEnds.{leaving_on, leaving_stop}
use Rattle.explain_check.proofs.seek.seek_end.Goals as goal

pub returns-in-Some : goal.returns-in-Some
returns-in-Some c = λ g l.
    leaving_stop g c.args.t c.args.first c.args.after c.loop-p.p c.loop-p.seeker.checker c.loop-p.seeker.notes c.loop-p.seeker.last_turns.items (c.loop-p.invariant.all g l)
    c.loop-p-test.true c.in-Some.fault
    (subst (λ o. VisitGives (Ok o) (checker_leave c.args.t.0 c.args.first c.loop-p.p c.loop-p.seeker.checker) c.leave.new.checker) c.in-Some.is c.in_ok-fault.ensures)
    _ (record { 0 = c.loop-p.p }) refl refl refl

pub loop-p-preserved : goal.loop-p-preserved
loop-p-preserved c =
    let left : checker_leave c.args.t.0 c.args.first c.loop-p.p c.loop-p.seeker.checker ≡ Ok c.leave.new.checker =
    subst (λ o. VisitGives (Ok o) (checker_leave c.args.t.0 c.args.first c.loop-p.p c.loop-p.seeker.checker) c.leave.new.checker) c.in_default.is c.in_ok-fault.ensures in
    record {
      some = (
        c.loop-p.invariant.some.0,
        leaving_on c.loop-p.invariant.some.0 c.args.t c.args.first c.args.after c.loop-p.p c.loop-p.seeker.checker c.loop-p.seeker.notes c.loop-p.seeker.last_turns.items
            c.loop-p.invariant.some.1 c.loop-p-test.true c.leave.new.checker left,
      );
      all = λ g l.
          leaving_on g c.args.t c.args.first c.args.after c.loop-p.p c.loop-p.seeker.checker c.loop-p.seeker.notes c.loop-p.seeker.last_turns.items (c.loop-p.invariant.all g l)
          c.loop-p-test.true c.leave.new.checker left;
    }

pub returns : goal.returns
returns c = λ g l.
    let all : c.loop-p.p ≡ 1024 = omega (arith, c.loop-p-test.false, c.loop-p.auto) in
    subst (λ q. Leaving g c.args.t.0 c.args.first c.args.after q c.loop-p.seeker.checker c.loop-p.seeker.notes c.loop-p.seeker.last_turns.items) all (c.loop-p.invariant.all g l)
