use Rattle.pool_jobs.proofs.over_inbox.run.Given as goal

abbrev pub ghosts-run_named : goal.ghosts-run_named
ghosts-run_named g a = record { names = a.opening }
