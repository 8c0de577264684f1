use Rattle.std.proofs.Common.{arith}
use Rattle.board.specs.calls.Steps.{own_phase}
use Rattle.board_runs.proofs.Leaving.{few_members}
use Rattle.board_runs.proofs.beginning.memberships.Goals as goal

pub overflow_add-count : goal.overflow_add-count
overflow_add-count c =
    (let l = few_members (own_phase c.args.seat.now.view) c.loop-p.p in
    let i = c.loop-p.invariant.counted in
    let t = c.loop-p-test.true in
    let k = c.phasers-p-end.type_inv in
    omega arith)

pub returns-clause-few : goal.returns-clause-few
returns-clause-few c =
    (let l = few_members (own_phase c.args.seat.now.view) c.loop-p.p in
    let i = c.loop-p.invariant.counted in
    let t = c.loop-p.auto.p-end in
    let n = c.phasers-p-end.ensures.counted in
    let few = c.phasers-p-end.ensures.checked.limits.few_phasers in
    omega arith)
