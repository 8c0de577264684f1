use Rattle.std.proofs.Common.{arith, length, subst}
use Rattle.explain_facts.proofs.PhasesInRows.{AreEmptyRows, cells_are_there, nobody_is_member}
use Rattle.explain_facts.proofs.phase_rows.PhaseRows.none.Goals as goal

pub returns-clause-cells : goal.returns-clause-cells
returns-clause-cells c =
    cells_are_there (length c.args.plan.now.parents) (length c.args.plan.now.makers) (record { rows = c.loop.rows })
    (subst (λ n. AreEmptyRows n (length c.args.plan.now.makers) c.loop.rows.items) (let all = c.tasks-end.ensures.counted in let stop = c.loop-test.false in omega (arith, all, stop, c.loop.auto.counter-end)) c.loop.invariant)

pub returns-clause-none : goal.returns-clause-none
returns-clause-none c = nobody_is_member c.loop.counter (length c.args.plan.now.makers) (record { rows = c.loop.rows }) c.loop.invariant
