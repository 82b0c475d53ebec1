-- What slots weigh, wherever they are. A weight h that is 1 at one slot and else 0 counts how often that slot is there.
use Rattle.std.specs.Prelude.{ℕ, ◌+◌, List}
use Rattle.region_cut.specs.declared.slot.Slot.{Slot}
use Rattle.region_cut.specs.Carved.{Carved}
use Rattle.region_cut.specs.Classes.{slots_of}
use Rattle.slot_chain.specs.Buffer.{Buffer}
use Rattle.digit_route.specs.States.{BatchState}
use Rattle.pool_desk.specs.Homes.{AtHome, slot_at}
use Rattle.pool_desk.specs.Slots.{places}
use Rattle.pool_desk.specs.Desks.{DeskState}
use Rattle.batch_inbox.specs.States.{TakeState}
use Rattle.slot_balance.specs.Weights.{weigh}
use Rattle.slot_balance.specs.Seats.{SeatState}

abbrev pub of_buffer : (Slot → ℕ) → Buffer → ℕ
of_buffer h b = h b.slot

abbrev pub of_home : (Slot → ℕ) → AtHome → ℕ
of_home h a = h (slot_at a)

abbrev pub of_batch : (Slot → ℕ) → BatchState → ℕ
of_batch h b = weigh (of_buffer h) b.items

-- what a seat sent
abbrev pub of_seat : (Slot → ℕ) → SeatState → ℕ
of_seat h s = weigh (of_batch h) s.sent

-- what several seats sent
abbrev pub of_seats : (Slot → ℕ) → List SeatState → ℕ
of_seats h xs = weigh (of_seat h) xs

-- what a receiver took
abbrev pub of_taking : (Slot → ℕ) → TakeState → ℕ
of_taking h t = weigh (of_batch h) t.taken

-- all slots of a drawn chunk
abbrev pub of_chunk : (Slot → ℕ) → Carved → ℕ
of_chunk h c = weigh h (places c.chunk (slots_of c.class) 0)

-- the slots that a desk has, at home and in its cache
abbrev pub held : (Slot → ℕ) → DeskState → ℕ
held h d = weigh (of_home h) d.home + weigh (of_buffer h) d.cached

-- all slots of the chunks that a desk drew
abbrev pub owed : (Slot → ℕ) → DeskState → ℕ
owed h d = weigh (of_chunk h) d.drawn
