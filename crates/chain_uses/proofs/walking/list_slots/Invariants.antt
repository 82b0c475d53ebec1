use Rattle.std.proofs.Common.{◌≡◌, ◌++◌, map, reverse}
use Rattle.chain_uses.proofs.walking.list_slots.Given as goal

abbrev pub invariant-loop-tag : goal.invariant-loop-tag
invariant-loop-tag l =
    (goal.iterator-loop-tag).can_next l.tag-iterator ×
    (goal.iterator-loop-tag).is_finite l.tag-iterator ×
    (l.slots.items ++ reverse (map (λ b. b.slot) l.tag-iterator) ≡ reverse (map (λ b. b.slot) l.chain))
