use Rattle.task_runner.proofs.pool.run_pool.Given as goal

abbrev pub ghosts-run_on : goal.ghosts-run_on
ghosts-run_on g a = record { board = a.run.board }
