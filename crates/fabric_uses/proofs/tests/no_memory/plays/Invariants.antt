use Rattle.fabric_uses.proofs.tests.no_memory.plays.Given as goal

abbrev pub ghosts-play_at : goal.ghosts-play_at
ghosts-play_at g a = record { names = a.opening }
