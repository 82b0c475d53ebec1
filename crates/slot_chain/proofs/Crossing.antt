-- What a struct that owns memory leaves behind names no thread, where what its fields leave names none.
use Rattle.slot_chain.proofs.Names.{exits_of, Owning, shape, fields, to, AllSend, Quiet, struct_send}
use denote.Exit.{Kept, Exit, unchanged, leaves, hidden, under}

quiet : {D X : Type 0} (f : D → X) (e : Exit X) → Quiet e → Quiet (hidden (under f e))
quiet f unchanged q = λ x w. tt
quiet f (leaves L l S s r₀) q = λ d. q (f d)

pub quiet_exits : (O : Owning) → AllSend (fields O) → (k : Kept) → Quiet (hidden (under (to O) (exits_of k (fields O))))
quiet_exits O all k = quiet (to O) (exits_of k (fields O)) ((struct_send (shape O) all).leaving k)
