-- Who packs parcels, who frees them, and what both leave go from thread to thread.
use denote.Exit.{no}
use denote.RattleType.{RattleType}
use denote.Ref.{NamedLft}
use denote.Struct.Declared.{fields, shape}
use denote.Param.Send.{IsSend, IsSync, AllSend, sendable, struct_send, param_send, arg_send}
use Rattle.std.specs.contracts.alloc.Global as Heap
use Rattle.std.specs.contracts.impls.GlobalAllocator.TheImpl.{ghosts}
use Rattle.std.proofs.Crossing.{crosses, frees, send, sync}
use Rattle.batch_inbox.specs.declared.mail.Mailbox as Mailbox
use Rattle.batch_inbox.specs.declared.mail.Receiver as Receiver
use Rattle.batch_inbox.specs.declared.mail.Sender as Sender
use Rattle.pool_fabric.specs.declared.naming.Naming as Naming
use Rattle.pool_fabric.specs.contracts.parcel.Parcel as Parcel
use Rattle.pool_fabric.proofs.Travels.{fabric_sync, held_send, parcel_send, send_fields, inbox_sync, take_send, seat_send}
use Rattle.pool_jobs.specs.contracts.entrance.Entrance as Entrance
use Rattle.pool_jobs.specs.contracts.gate.NoGate as NoGate
use Rattle.crossbeam_channel.proofs.channel.Sender.TheSendSync.{the_send as to_send}
use Rattle.crossbeam_channel.proofs.channel.Receiver.TheSendSync.{the_send as from_send}
use Rattle.jobs_uses.specs.contracts.handing.Packing as Packing
use Rattle.jobs_uses.specs.contracts.handing.Freeing as Freeing
use Rattle.jobs_uses.specs.contracts.handing.Left as Left
use Rattle.jobs_uses.proofs.handing.both_threads.Goals as goal

-- who is about to take up a station crosses where the inboxes and the gate are shared, and its seats cross
module _ (a r : NamedLft) (M T S G J : RattleType) (m : Mailbox.Ghosts M.Denot) (t : Receiver.Ghosts T.Denot) (s : Sender.Ghosts S.Denot) (j : Naming.Ghosts J.Denot)
    (i : IsSync M) (z : IsSync G) (x : IsSend T) (y : IsSend S) where
  in_entrance : AllSend (fields (Entrance.the_type a r M T S G J m t s j))
  in_entrance = (
    search (sendable, crosses, fabric_sync r M T S J m t s j i x y) depth 40 fits 6000,
    (search (sendable, crosses, z) depth 40 fits 6000, (search (sendable, crosses) depth 40 fits 6000, (search (sendable, crosses) depth 40 fits 6000, tt))),
  )

module _ (a r : NamedLft) (J : RattleType) (j : Naming.Ghosts J.Denot) where
  in_packing : AllSend (fields (Packing.the_type a r J j))
  in_packing = (
    struct_send (shape (Entrance.the_type a r _ _ _ NoGate.the_row J _ _ _ j))
        (in_entrance a r _ _ _ NoGate.the_row J _ _ _ j (inbox_sync r) (search (sendable, crosses) depth 40 fits 6000) (take_send r) (seat_send r)),
    (to_send (Parcel.the_row r J j) Heap.the_row ghosts (parcel_send r J j) send sync frees, (search (sendable, crosses) depth 40 fits 6000, tt)),
  )

  packing_send : IsSend (Packing.the_row a r J j)
  packing_send = send_fields (Packing.the_type a r J j) in_packing

  in_freeing : AllSend (fields (Freeing.the_type a r J j))
  in_freeing = (
    struct_send (shape (Entrance.the_type a r _ _ _ NoGate.the_row J _ _ _ j))
        (in_entrance a r _ _ _ NoGate.the_row J _ _ _ j (inbox_sync r) (search (sendable, crosses) depth 40 fits 6000) (take_send r) (seat_send r)),
    (from_send (Parcel.the_row r J j) Heap.the_row ghosts (parcel_send r J j) send sync frees, tt),
  )

  freeing_send : IsSend (Freeing.the_row a r J j)
  freeing_send = send_fields (Freeing.the_type a r J j) in_freeing

module _ (r : NamedLft) (J : RattleType) (j : Naming.Ghosts J.Denot) where
  in_left : AllSend (fields (Left.the_type r J j))
  in_left = (
    search (sendable, crosses, held_send, take_send, seat_send) depth 40 fits 6000,
    (search (sendable, crosses) depth 40 fits 6000, tt),
  )

  left_send : IsSend (Left.the_row r J j)
  left_send = send_fields (Left.the_type r J j) in_left

pub run_beside-requires-send-D : goal.run_beside-requires-send-D
run_beside-requires-send-D g c κs within = param_send _ _ (arg_send _ no _ (left_send (record { mir = _; lft = _ }) _ _))

pub run_beside-requires-send-W : goal.run_beside-requires-send-W
run_beside-requires-send-W g c κs within =
    param_send _ _ (arg_send _ no _ (packing_send (record { mir = _; lft = _ }) (record { mir = _; lft = _ }) _ _))

pub run_beside-requires-send-E : goal.run_beside-requires-send-E
run_beside-requires-send-E g c κs within = param_send _ _ (arg_send _ no _ (left_send (record { mir = _; lft = _ }) _ _))

pub run_beside-requires-send-X : goal.run_beside-requires-send-X
run_beside-requires-send-X g c κs within =
    param_send _ _ (arg_send _ no _ (freeing_send (record { mir = _; lft = _ }) (record { mir = _; lft = _ }) _ _))
