use Rattle.std.proofs.Common.{◌-◌, length, map, refl, sym, ap, ◌∙◌}
use Rattle.pool_fabric.specs.Names.{box_at}
use Rattle.pool_fabric.specs.Seats.{seat_of}
use Rattle.pool_fabric.specs.Gathered.{GatheredState, taking_of}
use Rattle.slot_balance.proofs.Rows.{map-snoc}
use Rattle.pool_fabric.proofs.Gathers.{last_take, seats_of, closes_keeps}
use Rattle.pool_fabric.proofs.gathered.Gathered.close.Goals as goal

pub drained-requires : goal.drained-requires
drained-requires g c =
    let taking = taking_of g.T.Receiver.inbox g.T.Receiver.senders g.T.Receiver.taken in
    let columns = ap (λ (s : GatheredState). s.columns) c.self.view_is in
    let len = columns ∙ c.requires.columns.1 ∙ sym (ap (λ (s : GatheredState). length s.takes) c.self.view_is) in
    let box = c.requires.inbox ∙ ap (λ k. box_at g.J.Naming.names (k - 1)) (sym columns) in
    let popped = ap (map taking) c.in-Some.ensures.items ∙ map-snoc taking c.pop.new.self.items c.in-Some.take in
    let take = last_take _ _ (map taking c.pop.new.self.items) (taking c.in-Some.take) c.self.inside.columns (g.M.Mailbox.id c.args.inbox) c.self.invariant.takes popped len box in
    λ k. (
      (refl, tt),
      (
        take.0,
        (
          seats_of g.J.Naming.names (c.self.inside.columns - 1) (g.M.Mailbox.id c.args.inbox) _ c.in_ok-seats.ensures.seats.0 box,
          c.in_ok-seats.ensures.seats.1 ∙ ap (λ (s : GatheredState). length s.rows) c.self.view_is ∙ c.requires.columns.2 ∙ sym take.1,
        ),
      ),
    )

pub invariant_of-result : goal.invariant_of-result
invariant_of-result g c =
    let taking = taking_of g.T.Receiver.inbox g.T.Receiver.senders g.T.Receiver.taken in
    let as_seat = seat_of g.S.Sender.inbox g.S.Sender.number g.S.Sender.sent g.S.Sender.resting in
    let columns = ap (λ (s : GatheredState). s.columns) c.self.view_is in
    let len = columns ∙ c.requires.columns.1 ∙ sym (ap (λ (s : GatheredState). length s.takes) c.self.view_is) in
    let box = c.requires.inbox ∙ ap (λ k. box_at g.J.Naming.names (k - 1)) (sym columns) in
    let popped = ap (map taking) c.in-Some.ensures.items ∙ map-snoc taking c.pop.new.self.items c.in-Some.take in
    let take = last_take _ _ (map taking c.pop.new.self.items) (taking c.in-Some.take) c.self.inside.columns (g.M.Mailbox.id c.args.inbox) c.self.invariant.takes popped len box in
    closes_keeps _ _ (taking c.in-Some.take) (map taking c.pop.new.self.items) (map as_seat c.in_ok-seats.field-0.seats.items) c.in_ok-seats.field-0.rows.items c.in_ok-more.more.items c.append.new.self.items (c.self.inside.columns - 1)
    c.self.invariant popped take.2 c.in_ok-seats.ensures.rows.0 c.in_ok-seats.ensures.rows.1 c.in_ok-seats.ensures.slots c.in_ok-more.ensures c.in_ok-append.ensures.items
