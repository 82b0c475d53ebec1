use Rattle.trace_audit.proofs.Runs.{texts}
use Rattle.trace_audit.proofs.laws.texts_are_traces.Goals as goal

pub returns : goal.returns
returns c = texts
