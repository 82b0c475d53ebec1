-- Which slots are where, as it is told of a state.
use Rattle.std.specs.Prelude.{ℕ, ◌&&◌, ◌==◌, List, filter, flat_map, count_by, is_some}
use Rattle.std.specs.List.{range_with_len}
use Rattle.region_cut.specs.declared.slot.Slot.{Slot}
use Rattle.pool_machine.specs.State.{State, Waiting, AtHome, InBatch, owner_of, slots, is_at, slots_at, inbox}

-- the slots at home with desk a, and those of the batches that wait for it
abbrev pub home_slots : State → ℕ → List Slot
home_slots st a = filter (λ s. is_at st AtHome s && (owner_of st s == a)) (slots st)

abbrev pub queued_slots : State → ℕ → List Slot
queued_slots st a = flat_map (λ (w : Waiting). slots_at st (InBatch w.number)) (inbox st a)

-- how many chunks are drawn
abbrev pub drawn_count : State → ℕ
drawn_count st = count_by (λ k. is_some (st.drawn k)) (range_with_len 0 st.chunks)
