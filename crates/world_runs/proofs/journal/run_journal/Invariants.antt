use Rattle.world_runs.proofs.journal.run_journal.Given as goal

abbrev pub ghosts-run_named : goal.ghosts-run_named
ghosts-run_named g a = record { plan = a.plan.now }
