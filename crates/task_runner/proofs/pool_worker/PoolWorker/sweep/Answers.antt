use Rattle.task_runner.proofs.PoolWorkers.{may_on, goes_on}
use Rattle.task_runner.proofs.pool_worker.PoolWorker.sweep.Goals as goal

pub visit-requires-clause-ready : goal.visit-requires-clause-ready
visit-requires-clause-ready g c = may_on g.N.BoardName.board c.args.pool.now c.args.self.now c.loop-t.self c.requires.ready c.loop-t.invariant

pub loop-t-preserved : goal.loop-t-preserved
loop-t-preserved g c = goes_on c.args.self.now c.loop-t.self c.visit.new.self c.loop-t.invariant c.visit.ensures

pub returns-in_err-here : goal.returns-in_err-here
returns-in_err-here g c = goes_on c.args.self.now c.loop-t.self c.visit.new.self c.loop-t.invariant c.visit.ensures
