-- Stations go to other threads, and threads share a fabric: each type by the lemmas of what it holds.
use denote.RattleType.{RattleType}
use denote.Ref.{NamedLft}
use denote.Struct.Struct.{Struct}
use denote.Struct.Declared.{Declared, row, shape, fields}
use denote.Param.Send.{IsSend, IsSync, AllSend, AllSync, sendable, struct_send, struct_sync, recorded_send, recorded_sync, view_send}
use Rattle.std.proofs.Crossing.{crosses, Box-send, Vec-send, Vec-sync}
use Rattle.std.proofs.option.Option.TheSendSync.{the_send as option_send}
use Rattle.atomic_blocks.proofs.web.Seat.TheSendSync.{the_send as pass_send}
use Rattle.atomic_blocks.proofs.web.Web.TheSendSync.{the_sync as line_sync}
use Rattle.crossbeam_utils.specs.contracts.cache_padded.CachePadded as CachePadded
use Rattle.loan_ledger.proofs.Travels.{loans_send, receipt_send}
use Rattle.region_cut.proofs.part.Part.TheSendSync.{the_send as part_send}
use Rattle.digit_route.proofs.Travels.{batch_send, empty_send, parcel_send as packed_send}
use Rattle.pool_desk.proofs.Travels.{desk_send}
use Rattle.pool_desk.specs.contracts.desk.Desk as Desk
use Rattle.slot_balance.proofs.Travels.{notes_send}
use Rattle.slot_audit.specs.contracts.drawn.Drawn as Drawn
use Rattle.batch_inbox.specs.declared.mail.Mailbox as Mailbox
use Rattle.batch_inbox.specs.declared.mail.Receiver as Receiver
use Rattle.batch_inbox.specs.declared.mail.Sender as Sender
use Rattle.batch_inbox.specs.contracts.inbox.Inbox as Inbox
use Rattle.batch_inbox.specs.contracts.seats.TakeSeat as TakeSeat
use Rattle.batch_inbox.specs.contracts.seats.SendSeat as SendSeat
use Rattle.pool_fabric.specs.declared.naming.Naming as Naming
use Rattle.pool_fabric.specs.contracts.ledger.Ledger as Ledger
use Rattle.pool_fabric.specs.contracts.ledger.Page as Page
use Rattle.pool_fabric.specs.contracts.station.Station as Station
use Rattle.pool_fabric.specs.contracts.station.Station.TheInside as InStation
use Rattle.pool_fabric.specs.contracts.held.HeldStation as HeldStation
use Rattle.pool_fabric.specs.contracts.held.HeldStation.TheInside as InHeld
use Rattle.pool_fabric.specs.contracts.parcel.Parcel as Parcel
use Rattle.pool_fabric.specs.contracts.parcel.Parcel.TheInside as InParcel
use Rattle.pool_fabric.specs.contracts.shelf.Shelf as Shelf
use Rattle.pool_fabric.specs.contracts.stock.Stock as Stock
use Rattle.pool_fabric.specs.contracts.store.Store as Store
use Rattle.pool_fabric.specs.contracts.fabric.Fabric as Fabric
use Rattle.pool_fabric.proofs.named.Named.TheSendSync.{the_send as named_send, the_sync as named_sync}

-- a struct crosses by its fields
pub send_fields : (D : Declared) → AllSend (fields D) → IsSend (row D)
send_fields D all = recorded_send (Struct (shape D)) _ D.to D.to_one (struct_send (shape D) all)

pub sync_fields : (D : Declared) → AllSync (fields D) → IsSync (row D)
sync_fields D all = recorded_sync (Struct (shape D)) _ D.to D.to_one (struct_sync (shape D) all)

-- an inbox and its seats

pub take_send : (a : NamedLft) → IsSend (TakeSeat.the_row a)
take_send a = search (sendable, crosses, pass_send, option_send, batch_send) depth 40 fits 6000

pub seat_send : (a : NamedLft) → IsSend (SendSeat.the_row a)
seat_send a = search (sendable, crosses, pass_send, option_send, batch_send) depth 40 fits 6000

pub inbox_sync : (a : NamedLft) → IsSync (Inbox.the_row a)
inbox_sync a = search (sendable, crosses, line_sync, option_send, batch_send, empty_send) depth 40 fits 6000

-- a parcel of buffers

pub parcel_send : (r : NamedLft) (J : RattleType) (j : Naming.Ghosts J.Denot) → IsSend (Parcel.the_row r J j)
parcel_send r X j = view_send _ _ _ _ _ (send_fields (InParcel.the_type r X j) (packed_send r, (receipt_send, (search (sendable, crosses) depth 40 fits 6000, tt))))

-- what a station has beside its seats

page_send : IsSend Page.the_row
page_send = search (sendable, crosses, pass_send, loans_send) depth 40 fits 6000

-- a desk alone on its cache lines
padded_send : (a : NamedLft) → IsSend (CachePadded.the_row (Desk.the_row a))
padded_send a = search (sendable, crosses, desk_send) depth 40 fits 6000

-- stations whose seats cross
module _ (a : NamedLft) (T S J : RattleType) (t : Receiver.Ghosts T.Denot) (s : Sender.Ghosts S.Denot) (j : Naming.Ghosts J.Denot) (x : IsSend T) (y : IsSend S) where
  in_held : AllSend (fields (InHeld.the_type a T S J t s j))
  in_held = (Box-send (CachePadded.the_row (Desk.the_row a)) (padded_send a), (x, (Vec-send S y, (page_send, (notes_send a, (notes_send a, (named_send J, tt)))))))

  pub held_send : IsSend (HeldStation.the_row a T S J t s j)
  held_send = view_send _ _ _ _ _ (send_fields (InHeld.the_type a T S J t s j) in_held)

  in_station : AllSend (fields (InStation.the_type a T S J t s j))
  in_station = (Box-send (CachePadded.the_row (Desk.the_row a)) (padded_send a), (x, (Vec-send S y, (page_send, (notes_send a, (notes_send a, (named_send J, tt)))))))

  pub station_send : IsSend (Station.the_row a T S J t s j)
  station_send = view_send _ _ _ _ _ (send_fields (InStation.the_type a T S J t s j) in_station)

  shelf_send : IsSend (Shelf.the_row a T S J t s j)
  shelf_send = search (sendable, crosses, station_send) depth 40 fits 6000

-- what lies under the stock's lock

drawn_send : IsSend Drawn.the_row
drawn_send = search (sendable, crosses) depth 40 fits 6000

stock_send : (a : NamedLft) → IsSend (Stock.the_row a)
stock_send a = search (sendable, crosses, part_send, drawn_send) depth 40 fits 6000

store_send : (a : NamedLft) (J : RattleType) (j : Naming.Ghosts J.Denot) → IsSend (Store.the_row a J j)
store_send a J j = search (sendable, crosses, stock_send, page_send, named_send) depth 40 fits 6000

ledger_sync : IsSync Ledger.the_row
ledger_sync = search (sendable, crosses, line_sync) depth 40 fits 6000

-- a fabric whose inboxes are shared, and whose seats cross
module _ (a : NamedLft) (M T S J : RattleType) (m : Mailbox.Ghosts M.Denot) (t : Receiver.Ghosts T.Denot) (s : Sender.Ghosts S.Denot) (j : Naming.Ghosts J.Denot) (z : IsSync M) (x : IsSend T) (y : IsSend S) where
  in_fabric : AllSync (fields (Fabric.the_type a M T S J m t s j))
  in_fabric = (
    Vec-sync M z,
    (ledger_sync, (search (sendable, crosses, shelf_send a T S J t s j x y) depth 40 fits 6000, (search (sendable, crosses, store_send) depth 40 fits 6000, (named_sync J, tt)))),
  )

  pub fabric_sync : IsSync (Fabric.the_row a M T S J m t s j)
  fabric_sync = sync_fields (Fabric.the_type a M T S J m t s j) in_fabric
