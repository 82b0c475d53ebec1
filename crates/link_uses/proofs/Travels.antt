-- An inbox goes to another thread, by the lemmas of what it holds.
use denote.RattleType.{RattleType}
use denote.Ref.{NamedLft}
use denote.Param.Send.{IsSend, sendable}
use Rattle.std.proofs.Crossing.{crosses, send, frees}
use Rattle.std.specs.contracts.alloc.Global as Heap
use Rattle.std.specs.contracts.impls.GlobalAllocator.TheImpl.{ghosts}
use Rattle.atomic_table.proofs.shared.Shared.TheSendSync.{the_send as shared_send}
use Rattle.atomic_table.specs.contracts.send_lease.SendLease as SendLease
use Rattle.atomic_table.proofs.send_lease.SendLease.TheSendSync.{the_send as lease_send}
use Rattle.link_inbox.proofs.Travels.{load_send}
use Rattle.link_inbox.specs.contracts.inbox.LinkInbox as LinkInbox

-- a lease at the heap, since `search` finds no allocator's ghost members in a row
lease_at_heap : (T : RattleType) → IsSend (SendLease.the_row T Heap.the_row ghosts)
lease_at_heap T = lease_send T Heap.the_row ghosts send frees

pub link_inbox_send : (a : NamedLft) → IsSend (LinkInbox.the_row a)
link_inbox_send a = search (sendable, crosses, load_send, shared_send, lease_at_heap) depth 40 fits 6000
