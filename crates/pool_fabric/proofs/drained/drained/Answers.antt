use Rattle.std.proofs.Common.{◌≡◌, ℕ, [], ◌∷◌, ◌++◌, length, map, refl, sym, ap, ◌∙◌, subst, append_assoc, append-nil}
use Rattle.std.specs.Prelude.{◌==◌, ◌≤◌}
use Rattle.std.proofs.lemmas.List.Elements.{filter-append}
use Rattle.digit_route.specs.States.{BatchState}
use Rattle.batch_inbox.specs.Views.{batches_of}
use Rattle.pool_fabric.specs.Seats.{SeatState, seat_of}
use Rattle.slot_balance.proofs.Posting.{get_map, length-mapped}
use Rattle.slot_balance.proofs.Rows.{get_mapped}
use Rattle.pool_fabric.proofs.Cancels.{cancels}
use Rattle.pool_fabric.proofs.drained.drained.Goals as goal

pub drain-rest-requires : goal.drain-rest-requires
drain-rest-requires g c κs =
    let as_seat = seat_of g.S.Sender.inbox g.S.Sender.number g.S.Sender.sent g.S.Sender.resting in
    ((refl, tt), (c.requires.take, ((λ k s at. c.requires.seats.0.each k (as_seat s) (get_map as_seat c.args.seats.items k s at)), c.requires.seats.1)))

pub loop-preserved : goal.loop-preserved
loop-preserved g c =
    let i = c.loop.invariant in
    let x = c.in-Some-next_rest.batch in
    let new = c.next_rest.new.rest in
    let left = g.M.Rest.Remainder.left new in
    rw c.in_ok-push.ensures.items (
      tt,
      tt,
      λ k.
          i.2 k
          ∙ ap (λ l. batches_of k c.loop.batches.items ++ l) (c.in-Some-next_rest.ensures k)
          ∙ sym (append_assoc (batches_of k c.loop.batches.items) (batches_of k (x ∷ [])) (left k))
          ∙ ap (λ l. l ++ left k) (sym (filter-append (λ (y : BatchState). y.sender == k) c.loop.batches.items (x ∷ []))),
    )

pub returns-in_default : goal.returns-in_default
returns-in_default g c h =
    let i = c.loop.invariant in
    let as_seat = seat_of g.S.Sender.inbox g.S.Sender.number g.S.Sender.sent g.S.Sender.resting in
    let seats = map as_seat c.args.seats.items in
    let taken = g.T.Receiver.taken c.args.take in
    let e = c.drain-rest.ensures in
    let many : length seats ≡ length c.args.seats.items = length-mapped as_seat c.args.seats.items in
    let all : (k : ℕ) → g.M.Rest.Remainder.left c.drain-rest.result k ≡ batches_of k c.loop.batches.items =
    λ k. i.2 k ∙ ap (λ l. batches_of k c.loop.batches.items ++ l) (c.in_default.ensures k) ∙ append-nil _ in
    cancels h seats taken c.loop.batches.items
    (λ k y at.
    let x = get_mapped as_seat c.args.seats.items k y at in
    ap (λ (s : SeatState). s.sent) (sym x.2) ∙ e.all k x.0 x.1 ∙ ap (λ l. batches_of k taken ++ l) (all k))
    (λ k le. (e.only k (subst (λ n. n ≤ k) many le)).0)
    (λ k le. sym (all k) ∙ (e.only k (subst (λ n. n ≤ k) many le)).1)
