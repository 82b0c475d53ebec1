use Rattle.fabric_uses.proofs.resending.post_twice.Given as goal

abbrev pub ghosts-post_twice_at : goal.ghosts-post_twice_at
ghosts-post_twice_at g a = record { names = a.opening }
