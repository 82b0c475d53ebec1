use Rattle.fabric_uses.proofs.tests.given_back.drops.Given as goal

abbrev pub ghosts-drops_at : goal.ghosts-drops_at
ghosts-drops_at g a = record { names = a.opening }
