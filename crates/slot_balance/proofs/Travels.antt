-- The notes of buffers go to other threads.
use denote.Ref.{NamedLft}
use denote.Struct.Struct.{Struct}
use denote.Struct.Declared.{shape}
use denote.Param.Send.{IsSend, sendable, struct_send, recorded_send, view_send}
use Rattle.std.proofs.Crossing.{crosses}
use Rattle.slot_chain.specs.contracts.buf.Buf as Buf
use Rattle.digit_route.proofs.Travels.{buf_send}
use Rattle.slot_balance.specs.contracts.counted_notes.CountedNotes as CountedNotes
use Rattle.slot_balance.specs.contracts.counted_notes.CountedNotes.TheInside as InNotes
use Rattle.slot_balance.proofs.notes.Notes.TheSendSync.{the_send as notes_of}

pub notes_send : (a : NamedLft) → IsSend (CountedNotes.the_row (Buf.the_row a))
notes_send a =
    let D = InNotes.the_type (Buf.the_row a) in
    view_send _ _ _ _ _ (recorded_send (Struct (shape D)) _ D.to D.to_one
    (struct_send (shape D) (notes_of (Buf.the_row a) (buf_send a), (search (sendable, crosses) depth 40 fits 6000, tt))))
