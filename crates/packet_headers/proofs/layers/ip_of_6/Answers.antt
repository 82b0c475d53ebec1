use Rattle.packet_headers.proofs.Whole.{payload_cut}
use Rattle.packet_headers.proofs.layers.ip_of_6.Goals as goal

pub returns : goal.returns
returns c = λ cut. payload_cut _ _ _ _ c.in_ok-header.ensures.value.payload (c.extended-ended.ensures cut)
