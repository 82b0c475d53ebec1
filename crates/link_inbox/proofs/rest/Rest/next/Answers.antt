use Rattle.std.proofs.Common.{◌≡◌, ℕ, sym, ap, subst}
use Rattle.std.specs.Mem.Slots.{slots_items}
use Rattle.link_inbox.specs.Remains.{rows}
use Rattle.link_inbox.proofs.HandsOut.{hands_out}
use Rattle.link_inbox.proofs.rest.Rest.next.Goals as goal

pub returns : goal.returns
returns c =
    let old = c.self.inside.round in let new = c.next.new.self in let told = c.next.ensures in
    rw (← c.self.view_is, told.senders) (hands_out (slots_items old.closed.slots) (slots_items new.closed.slots) old.turns new.turns old.next new.next old.senders c.next.result told.some told.none)
