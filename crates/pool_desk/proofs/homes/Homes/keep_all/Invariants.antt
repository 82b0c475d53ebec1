use Rattle.std.proofs.Common.{◌≡◌, ◌++◌, All, length, map, IsPermutation}
use Rattle.slot_chain.specs.Buffer.{Buffer}
use Rattle.pool_desk.specs.Homes.{comes_home}
use Rattle.pool_desk.proofs.homes.Homes.keep_all.Given as goal

abbrev pub invariant-loop-buf : goal.invariant-loop-buf
invariant-loop-buf l =
    (l.self ≡ record l.fn.self { slots = l.self.slots })
    × IsPermutation (map comes_home l.initial.array.items ++ l.fn.self.slots) (map comes_home l.array.items ++ l.self.slots)
    × All (λ (b : Buffer). b.owner ≡ l.fn.self.owner) l.array.items

abbrev pub decreases-loop-buf : goal.decreases-loop-buf
decreases-loop-buf l = length l.array.items
