-- Threads share an inbox, and its seats go to other threads: each type by the lemmas of what it holds.
use denote.RattleType.{RattleType}
use denote.Ref.{NamedLft}
use denote.Param.Send.{IsSend, IsSync, sendable}
use Rattle.std.proofs.Crossing.{crosses, send, frees}
use Rattle.std.specs.contracts.alloc.Global as Heap
use Rattle.std.specs.contracts.impls.GlobalAllocator.TheImpl.{ghosts}
use Rattle.atomic_table.proofs.shared.Shared.TheSendSync.{the_sync as shared_sync}
use Rattle.atomic_table.proofs.shared.Seat.TheSendSync.{the_send as token_send}
use Rattle.atomic_table.specs.contracts.send_lease.SendLease as SendLease
use Rattle.atomic_table.proofs.send_lease.SendLease.TheSendSync.{the_sync as lease_sync}
use Rattle.digit_route.proofs.Travels.{batch_send, empty_send}
use Rattle.link_inbox.specs.contracts.inbox.LinkInbox as LinkInbox
use Rattle.link_inbox.specs.contracts.load.Load as Load
use Rattle.link_inbox.specs.contracts.seats.TakeSeat as TakeSeat
use Rattle.link_inbox.specs.contracts.seats.SendSeat as SendSeat

-- a lease at the heap, since `search` finds no allocator's ghost members in a row
lease_at_heap : (T : RattleType) → IsSync (SendLease.the_row T Heap.the_row ghosts)
lease_at_heap T = lease_sync T Heap.the_row ghosts send frees

pub load_send : (a : NamedLft) → IsSend (Load.the_row a)
load_send a = search (sendable, crosses, batch_send, empty_send) depth 40 fits 6000

pub link_inbox_sync : (a : NamedLft) → IsSync (LinkInbox.the_row a)
link_inbox_sync a = search (sendable, crosses, load_send, shared_sync, lease_at_heap) depth 40 fits 6000

pub take_send : (a : NamedLft) → IsSend (TakeSeat.the_row a)
take_send a = search (sendable, crosses, token_send, load_send, empty_send) depth 40 fits 6000

pub seat_send : (a : NamedLft) → IsSend (SendSeat.the_row a)
seat_send a = search (sendable, crosses, token_send, load_send, empty_send) depth 40 fits 6000
