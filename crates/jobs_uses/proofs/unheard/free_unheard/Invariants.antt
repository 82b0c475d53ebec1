use Rattle.jobs_uses.proofs.unheard.free_unheard.Given as goal

abbrev pub ghosts-unheard : goal.ghosts-unheard
ghosts-unheard g a = record { names = a.opening }
