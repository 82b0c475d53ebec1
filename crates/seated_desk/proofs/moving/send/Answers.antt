use Rattle.std.proofs.Common.{◌≡◌, ◌<◌, [], ◌∷◌, ◌++◌, length, refl, sym, ap, ◌∙◌, subst}
use Rattle.std.proofs.lemmas.Option.{slice_get_read}
use Rattle.std.specs.Prelude.{is_none}
use Rattle.batch_inbox.specs.States.{InboxId}
use Rattle.link_inbox.specs.States.{SendState}
use Rattle.slot_balance.specs.Posts.{sent_at}
use Rattle.slot_balance.proofs.Posting.{get_map, map_kept, map_sent}
use Rattle.seated_desk.specs.Ways.{seat_at, seats_at}
use Rattle.seated_desk.proofs.Seated.{before_end, read_inbox, rests, some_there}
use Rattle.seated_desk.proofs.moving.send.Goals as goal

pub bounds-inboxes-at : goal.bounds-inboxes-at
bounds-inboxes-at c =
    let here = some_there c.args.seats.now c.from-at.result c.if-at-seats.false in
    before_end _ _ _ (c.requires.each _ _ (get_map seat_at _ c.from-at.result _ here.1)).0

pub post-requires-clause-seat : goal.post-requires-clause-seat
post-requires-clause-seat c =
    let at = c.from-at.result in
    let seat = c.requires.each at _ (get_map seat_at _ at _ (slice_get_read _ _ at c.index-seats-at.result refl c.if-at-seats.false c.index-seats-at.is)) in
    let is = sym c.index-seats-at.is in
    (ap (λ (s : SendState). s.inbox) is ∙ read_inbox c.args.inboxes.now at _ _ seat.0 c.index-inboxes-at.is, ap (λ (s : SendState). s.half) is ∙ rests _ seat.3)

pub post-requires-clause-batch : goal.post-requires-clause-batch
post-requires-clause-batch c =
    let at = c.from-at.result in
    let seat = c.requires.each at _ (get_map seat_at _ at _ (slice_get_read _ _ at c.index-seats-at.result refl c.if-at-seats.false c.index-seats-at.is)) in
    let number : at ≡ c.args.batch.address = c.from-at.ensures ∙ c.address.ensures.value in (
      (λ i. record { address = sym number i; digits = c.args.batch.digits }) ∙ sym seat.1 ∙ ap (λ (b : InboxId). b.place) (read_inbox c.args.inboxes.now at _ _ seat.0 c.index-inboxes-at.is),
      sym (ap (λ (s : SendState). s.sender) (sym c.index-seats-at.is) ∙ seat.2),
    )

pub reclaim_empty-requires : goal.reclaim_empty-requires
reclaim_empty-requires c =
    let at = c.from-at.result in
    let seat = c.requires.each at _ (get_map seat_at _ at _ (slice_get_read _ _ at c.index-seats-at.result refl c.if-at-seats.false c.index-seats-at.is)) in
    c.in-Ok.ensures.seat.0 ∙ ap (λ (s : SendState). s.inbox) (sym c.index-seats-at.is) ∙ read_inbox c.args.inboxes.now at _ _ seat.0 c.index-inboxes-at.is

pub returns-in-Ok : goal.returns-in-Ok
returns-in-Ok c =
    let b = c.args.batch in
    let at = c.from-at.result in
    let seats = c.args.seats.now in
    let x = c.index-seats-at.result in
    let here = slice_get_read _ _ at x refl c.if-at-seats.false c.index-seats-at.is in
    let number : at ≡ b.address = c.from-at.ensures ∙ c.address.ensures.value in
    let is = sym c.index-seats-at.is in
    let e = c.in-Ok.ensures in
    let rested = (c.requires.each at _ (get_map seat_at _ at _ here)).3 in
    let sent : seat_at c.post.new.seat ≡ record (seat_at x) { sent = x.sent ++ b ∷ [] } =
    (λ i. record {
      inbox = (e.seat.0 ∙ ap (λ (s : SendState). s.inbox) is) i;
      sender = (e.seat.1 ∙ ap (λ (s : SendState). s.sender) is) i;
      sent = (e.batch ∙ ap (λ (s : SendState). s.sent ++ b ∷ []) is) i;
      resting = (ap is_none e.seat.2 ∙ sym rested) i;
    }) in (
      subst (λ k. k < length seats) number c.if-at-seats.false,
      map_sent seat_at seats at x c.reclaim_empty.new.seat b here (ap seat_at c.reclaim_empty.ensures ∙ sent) ∙ ap (λ k. sent_at k b (seats_at seats)) number,
    )

pub returns-in-Err : goal.returns-in-Err
returns-in-Err c =
    let at = c.from-at.result in
    let here = slice_get_read _ _ at c.index-seats-at.result refl c.if-at-seats.false c.index-seats-at.is in
    (c.in-Err.ensures.batch.0, map_kept seat_at c.args.seats.now at c.index-seats-at.result c.post.new.seat here (ap seat_at (c.in-Err.ensures.batch.1 ∙ sym c.index-seats-at.is)))
