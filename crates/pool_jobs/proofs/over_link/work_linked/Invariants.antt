use Rattle.pool_jobs.proofs.over_link.work_linked.Given as goal

abbrev pub ghosts-work_named : goal.ghosts-work_named
ghosts-work_named g a = record { names = a.opening }
