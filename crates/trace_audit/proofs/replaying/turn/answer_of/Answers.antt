use Rattle.trace_audit.proofs.replaying.turn.answer_of.Goals as goal

pub returns : goal.returns
returns c = c.apply.ensures.applies
