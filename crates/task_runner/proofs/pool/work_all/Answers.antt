use denote.Exit.{no}
use denote.Param.{param}
use denote.Param.Send.{arg_sync, param_sync}
use Rattle.std.proofs.Common.{◌≡◌, length, rules, arith}
use Rattle.task_runner.proofs.PoolCrossing.{work_sync}
use Rattle.task_runner.proofs.PoolWorkers.{all_after, ready}
use Rattle.task_runner.proofs.pool.work_all.Goals as goal

pub map_vec-requires-sync-F : goal.map_vec-requires-sync-F
map_vec-requires-sync-F g c κs within =
    param_sync 4 _ (arg_sync _ no _ (work_sync _ _ _ _ (param 2 g.row.R) (param 0 g.row.Q) (param 3 g.row.C) _ (search rules) (search rules) (search rules)))

pub map_vec-requires-after_bounds : goal.map_vec-requires-after_bounds
map_vec-requires-after_bounds g c κs within = λ i x l is.
    (c.requires.board, ready g.J.WorksOnPool.worker_value g.J.WorksOnPool.frame c.args.pool.now c.args.workers.items c.requires.tasks c.requires.workers i x l is)

pub returns : goal.returns
returns g c =
    let worker_value = g.J.WorksOnPool.worker_value in
    let olds = c.args.workers.items in
    let done = c.in_ok-done.done in
    let count : length done.items ≡ length olds = (let a = done.ok.0 in let b = c.args.workers.ok.0 in let e = c.in_ok-done.ensures.len in omega arith) in
    record {
      workers =
          all_after worker_value c.args.pool.now olds done.items c.requires.workers count
          (λ i d l. let job = (c.in_ok-done.ensures.each i d l).1 in (job.job, job.job_is, job.call.met));
    }
