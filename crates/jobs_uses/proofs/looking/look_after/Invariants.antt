use Rattle.jobs_uses.proofs.looking.look_after.Given as goal

abbrev pub ghosts-at_fabric : goal.ghosts-at_fabric
ghosts-at_fabric g a = record { names = a.opening }
