use Rattle.digit_route.proofs.KeptLaws.{added_twice}
use Rattle.digit_route.proofs.cache.Cache.take_back_some.Goals as goal

pub returns-clause-items : goal.returns-clause-items
returns-clause-items c =
    added_twice _ _ _ _ _ _ c.put_batches.ensures.items c.put_linked.ensures.items c.into_parts-batches.ensures.items
