-- A link may cross threads where its value may.
use Rattle.slot_chain.proofs.Names.{Option, Some, None, full_share, RattleType, Ptr, block_ptr, null_ptr, IsSend, AllSend, part_keyless, owning_send, sendable, fields}
use Rattle.slot_chain.proofs.LinkSteps.{link_owns, Lk, the_link}
use base.Shift.{Keyless}
use Rattle.std.proofs.Crossing as heap
use Rattle.slot_chain.proofs.Crossing.{quiet_exits}

owned : (T : RattleType) → IsSend T → (p : Ptr) (o : Option T.Denot) → Keyless (link_owns T p o)
owned T s p None = tt
owned T s (block_ptr b o) (Some x) = (λ _. tt, (part_keyless T s full_share x b o, heap.frees.frees _ _ _))
owned T s null_ptr (Some x) = (λ _. tt, (tt, heap.frees.frees _ _ null_ptr))

pub send : (T : RattleType) → IsSend T → IsSend (Lk T)
send T s =
    let all : AllSend (fields (the_link T)) = (search sendable, tt) in
    owning_send (the_link T) all (λ d. owned T s d.at d.value) (quiet_exits (the_link T) all)
