-- `Ties` holds nothing of its thread.
use Rattle.std.proofs.Common.{ℕ, List, [], ◌∷◌, ◌++◌}
use base.Fml.{GName}
use base.Shift.{Keyless}
use denote.Exit.{Exit, unchanged, leaves, hidden, under}
use denote.Param.Send.{IsSend, Quiet, owning_send, struct_send}
use denote.Struct.Owning.{shape, fields, to}
use denote.Struct.Struct.{exits_of}
use Rattle.region_cut.specs.Joins.{ends_after}
use Rattle.region_cut.specs.Carved.{Carved, all_joined}
use Rattle.region_cut.specs.contracts.endings.ties.Ties.{the_row, the_type}

keyless : (γ : GName) (done : List ℕ) (xs : List GName) (tail : List ℕ) → Keyless (ends_after γ done xs tail)
unfolding ends_after
keyless γ done [] tail = tt
keyless γ done (x ∷ xs) tail = λ v. (tt, keyless γ (done ++ v) xs tail)

keyless_all : (cs : List Carved) → Keyless (all_joined cs)
unfolding all_joined
keyless_all [] = tt
keyless_all (c ∷ cs) = (keyless c.whole [] c.taken c.rest, keyless_all cs)

quiet : {D X : Type 0} (f : D → X) (e : Exit X) → Quiet e → Quiet (hidden (under f e))
quiet f unchanged q = λ x w. tt
quiet f (leaves L l S s r₀) q = λ d. q (f d)

pub send : IsSend the_row
send = owning_send the_type tt (λ d. keyless_all d.all) (λ k. quiet (to the_type) (exits_of k (fields the_type)) ((struct_send (shape the_type) tt).leaving k))
