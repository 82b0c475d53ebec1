use Rattle.std.proofs.Common.{◌∷◌, [], length-append}
use Rattle.batch_inbox.proofs.NewSeats.{seats_more}
use Rattle.inbox_uses.proofs.seating.put_seat.Goals as goal

pub returns : goal.returns
returns c =
    let items = c.in_ok-push.ensures.items in (
      rw items (seats_more _ _ c.args.seat c.requires.seats c.requires.seat.0 c.requires.seat.1),
      rw items (length-append c.args.seats.now.items (c.args.seat ∷ [])),
    )
