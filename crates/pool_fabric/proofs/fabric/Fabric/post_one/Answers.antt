use Rattle.std.proofs.Common.{◌≡◌, ◌<◌, [], ◌∷◌, ◌++◌, length, map, refl, sym, ap, ◌∙◌, arith, subst}
use Rattle.std.proofs.lemmas.Option.{slice_get_read}
use Rattle.slot_balance.specs.Posts.{sent_at}
use Rattle.pool_fabric.specs.Seats.{seat_of}
use Rattle.slot_balance.proofs.Posting.{get_map, map_sent}
use Rattle.pool_fabric.proofs.fabric.Fabric.post_one.Goals as goal

pub post-requires : goal.post-requires
post-requires g c κs =
    let at = c.from-at.result in
    let as_seat = seat_of g.S.Sender.inbox g.S.Sender.number g.S.Sender.sent g.S.Sender.resting in
    let in_boxes : at < length c.args.self.now.inboxes.items = omega (arith, c.if-at-len.false, c.len.ensures, c.args.self.now.inboxes.ok) in
    let in_seats : at < length c.args.seats.now = omega (arith, c.if-at-seats.false) in
    let box = c.args.self.now.boxes.each at _ (get_map g.M.Mailbox.id _ at _ (slice_get_read _ _ at _ refl in_boxes c.index-inbox.ensures)) in
    let seat = c.requires.seats.each at _ (get_map as_seat _ at _ (slice_get_read _ _ at _ refl in_seats c.index-seats-at.is)) in
    let number : at ≡ c.args.batch.address = c.from-at.ensures ∙ c.address.ensures.value in
    let is = c.index-seats-at.is in (
      (refl, tt),
      (
        (ap g.S.Sender.inbox (sym is) ∙ seat.0 ∙ sym box.0, ap g.S.Sender.resting (sym is) ∙ seat.2),
        ((λ i. record { address = sym number i; digits = c.requires.digits i }) ∙ sym box.1, sym (ap g.S.Sender.number (sym is) ∙ seat.1)),
      ),
    )

pub reclaim_empty-requires : goal.reclaim_empty-requires
reclaim_empty-requires g c κs =
    let at = c.from-at.result in
    let as_seat = seat_of g.S.Sender.inbox g.S.Sender.number g.S.Sender.sent g.S.Sender.resting in
    let in_boxes : at < length c.args.self.now.inboxes.items = omega (arith, c.if-at-len.false, c.len.ensures, c.args.self.now.inboxes.ok) in
    let in_seats : at < length c.args.seats.now = omega (arith, c.if-at-seats.false) in
    let box = c.args.self.now.boxes.each at _ (get_map g.M.Mailbox.id _ at _ (slice_get_read _ _ at _ refl in_boxes c.index-inbox.ensures)) in
    let seat = c.requires.seats.each at _ (get_map as_seat _ at _ (slice_get_read _ _ at _ refl in_seats c.index-seats-at.is)) in
    let e = c.in-Ok.ensures in
    ((refl, tt), (e.seat.0 ∙ (ap g.S.Sender.inbox (sym c.index-seats-at.is) ∙ (seat.0 ∙ sym box.0)), e.seat.2))

pub returns-in-Ok : goal.returns-in-Ok
returns-in-Ok g c =
    let at = c.from-at.result in
    let b = c.args.batch in
    let as_seat = seat_of g.S.Sender.inbox g.S.Sender.number g.S.Sender.sent g.S.Sender.resting in
    let in_seats : at < length c.args.seats.now = omega (arith, c.if-at-seats.false) in
    let here = slice_get_read _ _ at c.index-seats-at.result refl in_seats c.index-seats-at.is in
    let seat = c.requires.seats.each at _ (get_map as_seat _ at _ here) in
    let number : at ≡ b.address = c.from-at.ensures ∙ c.address.ensures.value in
    let is = c.index-seats-at.is in
    let e = c.in-Ok.ensures in
    let back : c.reclaim_empty.new.seat ≡ c.post.new.seat = c.reclaim_empty.ensures in
    let sent : as_seat c.post.new.seat ≡ record (as_seat c.index-seats-at.result) { sent = g.S.Sender.sent c.index-seats-at.result ++ b ∷ [] } =
    (λ i. record {
      inbox = (e.seat.0 ∙ ap g.S.Sender.inbox (sym is)) i;
      sender = (e.seat.1 ∙ ap g.S.Sender.number (sym is)) i;
      sent = (e.batch ∙ ap (λ x. g.S.Sender.sent x ++ b ∷ []) (sym is)) i;
      resting = (e.seat.2 ∙ sym seat.2) i;
    }) in (
      subst (λ k. k < length c.args.seats.now) number in_seats,
      map_sent as_seat c.args.seats.now at c.index-seats-at.result c.reclaim_empty.new.seat b here (ap as_seat back ∙ sent) ∙ ap (λ k. sent_at k b (map as_seat c.args.seats.now)) number,
    )
