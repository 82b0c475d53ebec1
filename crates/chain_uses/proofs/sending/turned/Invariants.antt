use Rattle.std.proofs.Common.{◌≡◌, ◌++◌, length, reverse}
use Rattle.chain_uses.proofs.sending.turned.Given as goal

abbrev pub invariant-loop-buf : goal.invariant-loop-buf
invariant-loop-buf l = l.turned ++ reverse l.chain ≡ reverse l.initial.chain

abbrev pub decreases-loop-buf : goal.decreases-loop-buf
decreases-loop-buf l = length l.chain
