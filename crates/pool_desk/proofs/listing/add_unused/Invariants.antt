use Rattle.std.proofs.Common.{◌-◌}
use Rattle.pool_desk.specs.Slots.{places}
use Rattle.pool_desk.proofs.ListedLaws.{Adding}
use Rattle.pool_desk.proofs.listing.add_unused.Given as goal

abbrev pub invariant-loop-index : goal.invariant-loop-index
invariant-loop-index l =
    Adding (places l.chunk (l.end - l.next) l.next) (places l.chunk (l.end - l.index) l.index) l.initial.slots.items l.slots.items
