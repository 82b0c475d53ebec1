-- Where a layer was captured whole.
use Rattle.std.proofs.Common.{ℕ, ◌<◌, length, take, drop, arith, length-drop}
use Rattle.std.proofs.lemmas.List.{length-take}
use Rattle.packet_headers.specs.Headers.{IsBetween}
use Rattle.packet_headers.specs.declared.layer.Layer.{Layer}

-- a payload that wasn't captured whole lies in a layer that wasn't
pub payload_cut : (header size : ℕ) (layer payload : Layer) → IsBetween header size layer payload
    → length payload.bytes.now < payload.size → length layer.bytes.now < layer.size
payload_cut header size layer payload between cut =
    let bytes = between.bytes in let rest = between.rest in let fits = between.fits in let captured = between.captured in
    let less : length (drop header (take size layer.bytes.now)) < payload.size = rw (← bytes) cut in
    grind (arith, length-drop, length-take)
