use Rattle.std.proofs.Common.{length, arith}
use Rattle.pool_jobs.proofs.Lost.{lost_counted, no_longer}
use Rattle.pool_jobs.proofs.tally.BufferCounts.of.Goals as goal

pub returns-clause-counts : goal.returns-clause-counts
returns-clause-counts c =
    let found = c.args.found.now in record {
      allocated = c.count-allocated.ensures;
      freed = c.count-freed.ensures;
      lost = lost_counted 18446744073709551616 _ _ (length found.lent) (length found.freed) (omega arith) (no_longer found.lent found.freed c.requires.bounded)
          c.count-allocated.ensures c.count-freed.ensures;
    }
