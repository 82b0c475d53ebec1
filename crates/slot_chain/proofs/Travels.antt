-- An array with a late handle crosses threads where its items do.
use denote.RattleType.{RattleType}
use denote.Param.Send.{IsSend, sendable}
use Rattle.std.proofs.Crossing as heap
use Rattle.std.proofs.vec.Vec.TheSendSync.{the_send as vec_send}
use Rattle.std.specs.contracts.alloc.Global as Global
use Rattle.std.specs.contracts.impls.GlobalAllocator.TheImpl as by_heap
use Rattle.std.specs.contracts.vec.Vec as Vec
use Rattle.slot_chain.proofs.late_handle.LateHandleAllocator.TheSendSync.{the_frees}
use Rattle.slot_chain.specs.contracts.late_handle.LateHandle as LateHandle
use Rattle.slot_chain.specs.contracts.late_handle.LateHandleAllocator.TheImpl.{ghosts, no_dict}

-- the handle, as it comes or does not
pub late_send : IsSend (LateHandle.the_row Global.the_row)
late_send = search (sendable, heap.send) depth 40

pub late_array_send : (T : RattleType) → IsSend T → IsSend (Vec.the_row T (LateHandle.the_row Global.the_row) (ghosts Global.the_row by_heap.ghosts no_dict no_dict))
late_array_send T s = vec_send T _ _ s late_send (the_frees Global.the_row by_heap.ghosts no_dict no_dict heap.frees)
