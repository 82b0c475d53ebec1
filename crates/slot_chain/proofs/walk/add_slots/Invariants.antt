use Rattle.slot_chain.proofs.Listing.{Lists}
use Rattle.slot_chain.proofs.walk.add_slots.Given as goal

abbrev pub invariant-loop-tag : goal.invariant-loop-tag
invariant-loop-tag l =
    (goal.iterator-loop-tag).can_next l.tag-iterator ×
    (goal.iterator-loop-tag).is_finite l.tag-iterator ×
    Lists l.initial.slots.items l.fn.walk l.slots.items l.tag-iterator
