use Rattle.fabric_uses.proofs.going_on.post_past_queue.Given as goal

abbrev pub ghosts-past_queue_at : goal.ghosts-past_queue_at
ghosts-past_queue_at g a = record { names = a.opening }
