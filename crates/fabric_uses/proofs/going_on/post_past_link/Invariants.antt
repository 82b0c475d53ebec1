use Rattle.fabric_uses.proofs.going_on.post_past_link.Given as goal

abbrev pub ghosts-past_link_at : goal.ghosts-past_link_at
ghosts-past_link_at g a = record { names = a.opening }
