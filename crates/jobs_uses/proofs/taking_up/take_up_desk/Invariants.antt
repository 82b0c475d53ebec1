use Rattle.jobs_uses.proofs.taking_up.take_up_desk.Given as goal

abbrev pub ghosts-at_fabric : goal.ghosts-at_fabric
ghosts-at_fabric g a = record { names = a.opening }
