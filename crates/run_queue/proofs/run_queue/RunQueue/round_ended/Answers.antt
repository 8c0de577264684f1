use Rattle.std.proofs.Common.{arith}
use Rattle.run_queue.proofs.Queued.{gives_more, round_over}
use Rattle.run_queue.proofs.run_queue.RunQueue.round_ended.Goals as goal

pub children-preserved : goal.children-preserved
children-preserved c =
    gives_more c.args.self.now c.children.self c.add.new.self c.pop.new.self c.in-Some.c c.children.invariant c.in-Some.ensures.items c.add.ensures.tasks c.add.ensures.there
    c.add.ensures.keeps c.add.ensures.others

pub returns : goal.returns
returns c = λ first w h.
    let none = c.in_default.ensures.cases in
    round_over first w c.args.self.now c.children.self c.pop.new.self c.children.invariant (omega arith) (omega arith) h
