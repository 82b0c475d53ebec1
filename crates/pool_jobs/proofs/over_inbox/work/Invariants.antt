use Rattle.pool_jobs.proofs.over_inbox.work.Given as goal

abbrev pub ghosts-work_named : goal.ghosts-work_named
ghosts-work_named g a = record { names = a.opening }
