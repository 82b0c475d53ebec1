use Rattle.trace_audit.proofs.Readings.{read_in_one_way}
use Rattle.trace_audit.proofs.laws.traces_are_read_in_one_way.Goals as goal

pub returns : goal.returns
returns c = read_in_one_way
