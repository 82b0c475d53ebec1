use Rattle.fabric_uses.proofs.tests.bounded.tried.Given as goal

abbrev pub ghosts-tried_at : goal.ghosts-tried_at
ghosts-tried_at g a = record { names = a.opening }
