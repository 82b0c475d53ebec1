use Rattle.event_floor.proofs.naming.named_buffers_lie_at_their_ranges.Goals as goal

pub returns : goal.returns
returns c = λ end v names are b named region at slots.
    c.slots_lie_at_their_ranges.ensures end b.slot b.class region v.parts at named.chunk.whole (are.chunks b.slot.chunk named.chunk named.is_chunk).part
    named.chunk.taken slots b.bytes.ghost_name named.name
