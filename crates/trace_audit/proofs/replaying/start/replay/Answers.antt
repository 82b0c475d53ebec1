use Rattle.trace_audit.proofs.replaying.start.replay.Goals as goal

pub returns-clause-replayed : goal.returns-clause-replayed
returns-clause-replayed g c = c.in_ok-end.ensures.replayed.1
