use Rattle.std.proofs.Common.{◌≡◌, ◌++◌}
use Rattle.slot_chain.proofs.magazine.Magazine.push_all.Given as goal

abbrev pub invariant-loop-buf : goal.invariant-loop-buf
invariant-loop-buf l =
    (l.self ≡ l.initial.self ++ l.yielded) × (l.yielded ++ l.buf-iterator.rest.items ≡ l.fn.array.items)
