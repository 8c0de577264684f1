use Rattle.std.proofs.Common.{arith, ap, length}
use Rattle.armus_base.specs.Plans.{Plan}
use Rattle.board_runs.proofs.LookLoads.{behind_loads, reached_loads}
use Rattle.board_runs.proofs.task.look_by.Goals as goal

pub returns-in-Reached-clause-counted : goal.returns-in-Reached-clause-counted
returns-in-Reached-clause-counted c =
    (let l = reached_loads c.args.seat.now c.look.new.seat c.in-Reached.ensures.answer in
    let first = c.scanned-first.ensures.number in
    let tasks = c.tasks.ensures.counted in
    let plan = ap (λ (q : Plan). length q.parents) c.requires.made.plan in
    let rest = c.saturating_sub.ensures in
    let noted = c.note_loads.ensures in
    omega arith)

pub returns-in-Behind-clause-counted : goal.returns-in-Behind-clause-counted
returns-in-Behind-clause-counted c =
    (let l = behind_loads c.in-Behind.t.0 c.in-Behind.phase c.args.seat.now c.look.new.seat c.in-Behind.ensures.answer in
    let first = c.scanned-first.ensures.number in
    let rest = c.saturating_sub-in-Behind.ensures in
    let same = c.from-in-Behind.ensures in
    let noted = c.note_loads-in-Behind.ensures in
    omega arith)
