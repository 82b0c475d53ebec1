use Rattle.std.proofs.Common.{◌≡◌, ◌++◌}
use Rattle.slot_chain.proofs.into_iter.ChainExtendBuf.extend.Given as goal

abbrev pub invariant-loop-buf : goal.invariant-loop-buf
invariant-loop-buf g l = l.self ≡ l.initial.self ++ l.yielded
