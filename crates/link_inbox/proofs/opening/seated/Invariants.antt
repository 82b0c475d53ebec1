use Rattle.std.proofs.Common.{◌≡◌, ◌≤◌, [], length}
use Rattle.link_inbox.specs.States.{inbox_of, AreSeatsOf, AreNew, AreAtRest}
use Rattle.link_inbox.specs.Steps.{view}
use Rattle.link_inbox.specs.declared.rule.Role.TheVariants.{Ready}
use Rattle.link_inbox.proofs.opening.seated.Given as goal

abbrev pub invariant-loop-sender : goal.invariant-loop-sender
invariant-loop-sender l =
    (l.token.table_id ≡ l.initial.token.table_id)
    × (l.token.me ≡ (view Ready l.words.key 0 l.sender 0 0 [] [], []))
    × AreSeatsOf (inbox_of l.words.table_id l.words.key) l.seats.items
    × (length l.seats.items ≡ l.sender)
    × AreNew l.seats.items
    × AreAtRest l.seats.items
    × (l.sender ≤ l.senders)
