use Rattle.jobs_uses.proofs.over_counting.work_counting.Given as goal

abbrev pub ghosts-worked : goal.ghosts-worked
ghosts-worked g a = record { names = a.opening }
