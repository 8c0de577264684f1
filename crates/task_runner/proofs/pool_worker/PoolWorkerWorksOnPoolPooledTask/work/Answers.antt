use Rattle.task_runner.proofs.PoolWorkers.{may_on, goes_on}
use Rattle.task_runner.proofs.pool_worker.PoolWorkerWorksOnPoolPooledTask.work.Goals as goal

pub go_on-requires-clause-ready : goal.go_on-requires-clause-ready
go_on-requires-clause-ready g c = may_on g.N.BoardName.board c.args.pool.now c.args.self.now c.loop.self c.requires.ready c.loop.invariant

pub loop-preserved : goal.loop-preserved
loop-preserved g c = goes_on c.args.self.now c.loop.self c.go_on.new.self c.loop.invariant c.go_on.ensures

pub returns-then-not-go_on : goal.returns-then-not-go_on
returns-then-not-go_on g c = goes_on c.args.self.now c.loop.self c.go_on.new.self c.loop.invariant c.go_on.ensures
