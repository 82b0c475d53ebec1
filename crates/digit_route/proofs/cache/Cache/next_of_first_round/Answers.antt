use Rattle.digit_route.proofs.CounterLaws.{counted_parts}
use Rattle.digit_route.proofs.cache.Cache.next_of_first_round.Goals as goal

pub bytes_without-self-inside-requires : goal.bytes_without-self-inside-requires
bytes_without-self-inside-requires c =
    counted_parts c.self.inside.row.items c.in-Some.batch.items c.take_other.new.self.items _ c.self.invariant.2 c.in-Some.ensures.value.taken.together

pub returns-in-Some-clause-round : goal.returns-in-Some-clause-round
returns-in-Some-clause-round c = rw (← c.self.view_is) (rw c.self.invariant.0 at c.in-Some.ensures.round)

pub returns-in-None-clause-round : goal.returns-in-None-clause-round
returns-in-None-clause-round c = rw (← c.self.view_is) (rw c.self.invariant.0 at c.in-None.ensures.round)
