use Rattle.digit_route.proofs.CacheLaws.{Gives-or_none}
use Rattle.digit_route.proofs.cache.first_batch.Goals as goal

pub returns-clause-value : goal.returns-clause-value
returns-clause-value c =
    Gives-or_none _ _ _ _ _ _ c.into_row.ensures.items (rw c.new-posting.ensures at c.next_batch-batch.ensures.value)
