-- What is told when all work has ended.
use Rattle.std.specs.Prelude.{◌≡◌, ℕ, ◌+◌, List, length}
use Rattle.slot_balance.specs.Weights.{weigh}
use Rattle.pool_fabric.specs.Accounts.{owed}
use Rattle.pool_fabric.specs.Audited.{Audited, slots_found}
use Rattle.pool_fabric.specs.Losses.{FindsAtMostOnce, TellsLosses, TellsNone}
use Rattle.pool_fabric.specs.Whole.{IsWhole, FreesNoMore, IsEachDesk, AreNoted}
use Rattle.pool_fabric.specs.declared.found.Found.{Found}
use Rattle.pool_jobs.specs.declared.tally.Tally.{Tally}
use Rattle.pool_jobs.specs.Tallies.{AreCountsOf}

-- Of a pool of these chunks with so many desks nothing is lost, and nothing is there twice; each desk is found once;
-- the chunks told as drawn are those that the desks drew; and the audit is that of the slots found.
--
-- No slot was freed more often than it was lent, so each slot of a drawn chunk is found at most once, and no other.
-- A slot that the audit names was lent more often than it was freed, and where as many buffers were freed as were lent
-- it names none. As many slots of the drawn chunks are missing as buffers were lent and not freed. The tally counts
-- the buffers that were lent, freed, and lent but not freed; of `starved` nothing is said.
pub record IsAccounted (chunks : List ℕ) (count : ℕ) (found : Found) (tally : Tally) : Type 0 where
  pub whole : IsWhole found.desks.items found.batches.items found.lent found.freed found.parts.items chunks
  pub desks : IsEachDesk count found.desks.items
  pub drawn : AreNoted found.desks.items found.drawn
  pub audited : Audited (slots_found found.desks.items found.batches.items) found.drawn tally.audit
  pub bounded : FreesNoMore found.lent found.freed
  pub once : FindsAtMostOnce found.drawn (slots_found found.desks.items found.batches.items)
  pub losses : TellsLosses found.lent found.freed tally.audit
  pub balanced : length found.freed ≡ length found.lent → TellsNone tally.audit
  pub missing : length (slots_found found.desks.items found.batches.items) + length found.lent
      ≡ weigh (owed (λ _. 1)) found.desks.items + length found.freed
  pub counts : AreCountsOf found.lent found.freed tally.counts
