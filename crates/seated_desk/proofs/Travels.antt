-- What C keeps goes to other threads: each type by the lemmas of what it holds.
use denote.Builtin.{u64, RawPtr}
use denote.Ref.{NamedLft}
use denote.RattleType.{RattleType}
use denote.Struct.Struct.{Struct}
use denote.Struct.Declared.{Declared, row, shape, fields}
use denote.Param.Send.{IsSend, IsSync, AllSend, sendable, struct_send, recorded_send}
use Rattle.std.proofs.Crossing.{crosses, Vec-send, Vec-sync, Arc-send, send, frees}
use Rattle.std.proofs.option.Option.TheSendSync.{the_send as option_send}
use Rattle.std.specs.contracts.alloc.Global as Heap
use Rattle.std.specs.contracts.impls.GlobalAllocator.TheImpl.{ghosts}
use Rattle.atomic_table.proofs.shared.Shared.TheSendSync.{the_sync as shared_sync, the_send as shared_send}
use Rattle.atomic_table.proofs.shared.Seat.TheSendSync.{the_send as token_send}
use Rattle.atomic_table.specs.contracts.send_lease.SendLease as SendLease
use Rattle.atomic_table.proofs.send_lease.SendLease.TheSendSync.{the_sync as lease_sync, the_send as lease_send}
use Rattle.region_cut.proofs.part.Part.TheSendSync.{the_send as part_send}
use Rattle.digit_route.proofs.Travels.{buf_send, parcel_send}
use Rattle.pool_desk.proofs.Travels.{desk_send}
use Rattle.link_inbox.specs.contracts.inbox.LinkInbox as LinkInbox
use Rattle.link_inbox.specs.contracts.seats.SendSeat as SendSeat
use Rattle.link_inbox.proofs.Travels.{link_inbox_sync, load_send, seat_send, take_send}
use Rattle.slot_audit.specs.contracts.drawn.Drawn as Drawn
use Rattle.slot_balance.proofs.Travels.{notes_send}
use Rattle.chunk_stock.specs.contracts.drawer.Stock as Stock
use Rattle.chunk_stock.specs.contracts.drawer.Drawer as Drawer
use Rattle.seated_desk.specs.contracts.buf_handle.BufHandle as BufHandle
use Rattle.seated_desk.specs.contracts.station.Station as Station
use Rattle.seated_desk.specs.contracts.allocator_handle.AllocatorHandle as AllocatorHandle
use Rattle.seated_desk.specs.contracts.pool.Pool as Pool
use Rattle.seated_desk.specs.contracts.burst_handle.BurstHandle as BurstHandle

-- a struct crosses by its fields
send_fields : (D : Declared) → AllSend (fields D) → IsSend (row D)
send_fields D all = recorded_send (Struct (shape D)) _ D.to D.to_one (struct_send (shape D) all)

-- leases at the heap, since `search` finds no allocator's ghost members in a row
leases_sync : (T : RattleType) → IsSync (SendLease.the_row T Heap.the_row ghosts)
leases_sync T = lease_sync T Heap.the_row ghosts send frees

leases_send : (T : RattleType) → IsSend (SendLease.the_row T Heap.the_row ghosts)
leases_send T = lease_send T Heap.the_row ghosts send frees

inbox_send : (a : NamedLft) → IsSend (LinkInbox.the_row a)
inbox_send a = search (sendable, crosses, load_send, shared_send, leases_send) depth 40 fits 6000

stock_sync : (a : NamedLft) → IsSync (Stock.the_row a)
stock_sync a = search (sendable, crosses, option_send, part_send, shared_sync, leases_sync) depth 40 fits 6000

stock_send : (a : NamedLft) → IsSend (Stock.the_row a)
stock_send a = search (sendable, crosses, option_send, part_send, shared_send, leases_send) depth 40 fits 6000

number_send : IsSend u64
number_send = search (sendable, crosses) depth 20

drawn_send : IsSend Drawn.the_row
drawn_send = search (sendable, crosses, option_send) depth 40 fits 6000

drawer_all : (a : NamedLft) → AllSend (fields (Drawer.the_type a))
drawer_all a = (Arc-send (Stock.the_row a) (stock_send a) (stock_sync a), (search (sendable, crosses, token_send, option_send, part_send) depth 40 fits 6000, (drawn_send, (search (sendable, crosses) depth 20, tt))))

heap_field : IsSend (Heap.the_field).row
heap_field = search (sendable, crosses) depth 20

drawer_field : (a : NamedLft) → IsSend (Drawer.the_field a).row
drawer_field a = struct_send (shape (Drawer.the_type a)) (drawer_all a)

pub station_send : (a : NamedLft) → IsSend (Station.the_row a)
station_send a =
    let n = number_send in
    send_fields (Station.the_type a) (heap_field, (n, (desk_send a, (Arc-send _ (Vec-send (LinkInbox.the_row a) (inbox_send a)) (Vec-sync (LinkInbox.the_row a) (link_inbox_sync a)), (take_send a, (Vec-send (SendSeat.the_row a) (seat_send a), (drawer_field a, (n, (n, (n, (notes_send a, (notes_send a, (n, (n, (n, tt)))))))))))))))

pub seated_send : (a : NamedLft) → IsSend (AllocatorHandle.the_row a)
seated_send a = search (sendable, crosses, option_send, station_send) depth 40 fits 6000

pub burst_send : (a : NamedLft) → IsSend (BurstHandle.the_row a)
burst_send a = search (sendable, crosses, option_send, parcel_send) depth 40 fits 6000

pub pool_send : (a : NamedLft) → IsSend (Pool.the_row a)
pool_send a = search (sendable, crosses, station_send) depth 40 fits 6000

pointer_send : IsSend RawPtr
pointer_send = search sendable

pub buf_handle_send : (a : NamedLft) → IsSend (BufHandle.the_row a)
buf_handle_send a = send_fields (BufHandle.the_type a) (pointer_send, (number_send, (search (sendable, crosses, option_send, buf_send) depth 40 fits 6000, tt)))
