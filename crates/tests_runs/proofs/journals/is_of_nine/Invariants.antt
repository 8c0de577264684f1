use Rattle.tests_runs.proofs.journals.is_of_nine.Given as goal

abbrev pub ghosts-journal_by_two : goal.ghosts-journal_by_two
ghosts-journal_by_two g a = record { plan = a.plan.now }
