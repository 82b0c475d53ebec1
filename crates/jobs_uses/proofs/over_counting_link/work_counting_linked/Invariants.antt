use Rattle.jobs_uses.proofs.over_counting_link.work_counting_linked.Given as goal

abbrev pub ghosts-worked : goal.ghosts-worked
ghosts-worked g a = record { names = a.opening }
