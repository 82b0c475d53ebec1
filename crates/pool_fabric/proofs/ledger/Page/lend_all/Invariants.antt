use Rattle.std.proofs.Common.{◌≡◌, ◌++◌, map, take}
use Rattle.slot_chain.specs.Slots.{slot_of}
use Rattle.pool_fabric.proofs.ledger.Page.lend_all.Given as goal

abbrev pub invariant-loop-buf : goal.invariant-loop-buf
invariant-loop-buf l =
    (l.self ≡ record l.fn.self { lent = l.fn.self.lent ++ map slot_of (take l.buf-index l.buffers) })
    × (l.receipt ≡ record { ledger = l.fn.self.loans; slots = map slot_of (take l.buf-index l.buffers) })
