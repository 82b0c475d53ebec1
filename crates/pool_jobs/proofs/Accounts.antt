-- What is gathered and audited is accounted for.
use Rattle.std.proofs.Common.{ℕ, List}
use Rattle.pool_fabric.specs.Audited.{Audited, slots_found}
use Rattle.pool_fabric.specs.Losses.{FindsAtMostOnce}
use Rattle.pool_fabric.specs.Whole.{IsWhole, FreesNoMore, IsEachDesk, AreNoted}
use Rattle.pool_fabric.specs.declared.found.Found.{Found}
use Rattle.pool_fabric.proofs.Losses.{tells_losses, tells_none, losses_counted}
use Rattle.pool_jobs.specs.declared.tally.Tally.{Tally}
use Rattle.pool_jobs.specs.Tallies.{AreCountsOf}
use Rattle.pool_jobs.specs.Ends.{IsAccounted}

pub accounted : (chunks : List ℕ) (count : ℕ) (f : Found) (tally : Tally)
    → IsWhole f.desks.items f.batches.items f.lent f.freed f.parts.items chunks → IsEachDesk count f.desks.items → AreNoted f.desks.items f.drawn
    → Audited (slots_found f.desks.items f.batches.items) f.drawn tally.audit → FreesNoMore f.lent f.freed → FindsAtMostOnce f.drawn (slots_found f.desks.items f.batches.items)
    → AreCountsOf f.lent f.freed tally.counts → IsAccounted chunks count f tally
accounted chunks count f tally whole desks drawn audited bounded once counts =
    let losses = tells_losses f.desks.items f.batches.items f.lent f.freed f.parts.items chunks f.drawn whole drawn bounded once tally.audit audited in record {
      whole = whole;
      desks = desks;
      drawn = drawn;
      audited = audited;
      bounded = bounded;
      once = once;
      losses = losses;
      balanced = λ same. tells_none f.desks.items f.batches.items f.lent f.freed f.parts.items chunks f.drawn whole drawn bounded same tally.audit losses;
      missing = losses_counted f.desks.items f.batches.items f.lent f.freed f.parts.items chunks f.drawn whole drawn bounded;
      counts = counts;
    }
