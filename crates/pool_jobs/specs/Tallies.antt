-- What is counted of the buffers that were lent and freed.
use Rattle.std.specs.Prelude.{◌≡◌, ◌-◌, ◌%◌, ◌^◌, List, length}
use Rattle.slot_chain.specs.Buffer.{Buffer}
use Rattle.pool_jobs.specs.declared.tally.BufferCounts.{BufferCounts}

-- how many buffers were lent, how many were freed, and how many were lent and not freed, modulo 2^64
pub record AreCountsOf (loans returns : List Buffer) (c : BufferCounts) : Type 0 where
  pub allocated : c.allocated ≡ length loans % 2 ^ 64
  pub freed : c.freed ≡ length returns % 2 ^ 64
  pub lost : c.lost ≡ (length loans - length returns) % 2 ^ 64
