-- What the slots of an ended inbox still give.
use Rattle.std.specs.Prelude.{ℕ, List}
use Rattle.std.specs.Mem.Slots.{slots_items}
use Rattle.digit_route.specs.States.{BatchState}
use Rattle.link_inbox.specs.Remains.{row_of}
use Rattle.link_inbox.specs.declared.round.Round.{Round}

-- what is still to be read of the sender s
abbrev pub left_in : Round → ℕ → List BatchState
left_in round s = row_of (slots_items round.closed.slots) round.turns round.next s
