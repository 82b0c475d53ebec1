use Rattle.std.proofs.Common.{◌≡◌, ◌==◌, ◌+◌, ◌<◌, ◌^◌, count_by}
use Rattle.slot_chain.specs.Counts.{capped}
use Rattle.chain_uses.proofs.walking.count_owned.Given as goal

abbrev pub invariant-loop-tag : goal.invariant-loop-tag
invariant-loop-tag l =
    (goal.iterator-loop-tag).can_next l.tag-iterator ×
    (goal.iterator-loop-tag).is_finite l.tag-iterator ×
    (capped (l.count + count_by (λ b. b.owner == l.owner) l.tag-iterator) ≡ capped (count_by (λ b. b.owner == l.owner) l.chain)) ×
    (l.count < 2 ^ 64)
