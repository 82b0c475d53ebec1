-- `Known` holds nothing of its thread.
use Rattle.std.proofs.Common.{List, [], ◌∷◌}
use base.Shift.{Keyless}
use denote.Exit.{Exit, unchanged, leaves, hidden, under}
use denote.Param.Send.{IsSend, Quiet, owning_send, struct_send}
use denote.Struct.Owning.{shape, fields, to}
use denote.Struct.Struct.{exits_of}
use Rattle.region_cut.specs.Endings.{Ended, all_end_so}
use Rattle.region_cut.specs.contracts.endings.known.Known.{the_row, the_type}

keyless : (es : List Ended) → Keyless (all_end_so es)
unfolding all_end_so
keyless [] = tt
keyless (e ∷ es) = (tt, keyless es)

quiet : {D X : Type 0} (f : D → X) (e : Exit X) → Quiet e → Quiet (hidden (under f e))
quiet f unchanged q = λ x w. tt
quiet f (leaves L l S s r₀) q = λ d. q (f d)

pub send : IsSend the_row
send = owning_send the_type tt (λ d. keyless d.all) (λ k. quiet (to the_type) (exits_of k (fields the_type)) ((struct_send (shape the_type) tt).leaving k))
