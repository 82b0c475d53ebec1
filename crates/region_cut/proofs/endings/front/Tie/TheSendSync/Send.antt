-- A `Tie` holds nothing of its thread.
use Rattle.std.proofs.Common.{ℕ, List, [], ◌∷◌, ◌++◌}
use base.Fml.{GName}
use base.Shift.{Keyless}
use denote.Exit.{Exit, unchanged, leaves, hidden, under}
use denote.Param.Send.{IsSend, Quiet, owning_send, struct_send}
use denote.Struct.Owning.{shape, fields, to}
use denote.Struct.Struct.{exits_of}
use Rattle.region_cut.specs.Joins.{joins_after}
use Rattle.region_cut.specs.contracts.endings.front.Tie.{the_row, the_type}

keyless : (γ : GName) (done : List ℕ) (xs : List GName) (δ : GName) → Keyless (joins_after γ done xs δ)
unfolding joins_after
keyless γ done [] δ = λ w. (tt, tt)
keyless γ done (x ∷ xs) δ = λ v. (tt, keyless γ (done ++ v) xs δ)

quiet : {D X : Type 0} (f : D → X) (e : Exit X) → Quiet e → Quiet (hidden (under f e))
quiet f unchanged q = λ x w. tt
quiet f (leaves L l S s r₀) q = λ d. q (f d)

pub send : IsSend the_row
send = owning_send the_type tt (λ d. keyless d.whole d.settled d.taken d.rest) (λ k. quiet (to the_type) (exits_of k (fields the_type)) ((struct_send (shape the_type) tt).leaving k))
