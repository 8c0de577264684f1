use Rattle.explain_avoid.proofs.avoiding.Avoiding.round.Goals as goal

pub returns-clause-queue : goal.returns-clause-queue
returns-clause-queue c = c.round_ended.ensures c.args.self.now.world c.turns.new.self.world c.in_ok-moved.ensures.queue
