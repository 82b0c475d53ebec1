use Rattle.jobs_uses.proofs.alone.work_alone.Given as goal

abbrev pub ghosts-worked : goal.ghosts-worked
ghosts-worked g a = record { names = a.opening }
