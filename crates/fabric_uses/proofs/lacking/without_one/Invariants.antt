use Rattle.fabric_uses.proofs.lacking.without_one.Given as goal

abbrev pub ghosts-without_one_at : goal.ghosts-without_one_at
ghosts-without_one_at g a = record { names = a.opening }
