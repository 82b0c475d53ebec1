use Rattle.std.proofs.Common.{◌<◌, length}
use Rattle.packet_headers.proofs.layers.frame.Given as goal

-- where the payload wasn't captured whole, nor was the packet
abbrev pub invariant-loop : goal.invariant-loop
invariant-loop l = length l.payload.bytes.now < l.payload.size → length l.fn.packet.bytes.now < l.fn.packet.size
