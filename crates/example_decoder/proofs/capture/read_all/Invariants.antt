use Rattle.std.proofs.Common.{◌≤◌, length}
use Rattle.example_decoder.proofs.capture.read_all.Given as goal

abbrev pub invariant-loop : goal.invariant-loop
invariant-loop g l = l.filled ≤ length l.bytes
