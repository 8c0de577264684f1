use Rattle.run_queue.proofs.Queued.{turn_over}
use Rattle.run_queue.proofs.run_queue.RunQueue.turn_ended.Goals as goal

pub returns-then-branch : goal.returns-then-branch
returns-then-branch c = λ first turn h.
    let noted = c.in_ok-note.ensures.noted c.if-branch.true first turn h in
    turn_over first c.args.world.now c.note.new.self c.take_out.new.self c.args.t.0 c.take_out.ensures.tasks c.take_out.ensures.keeps c.take_out.ensures.others noted.0 noted.1
