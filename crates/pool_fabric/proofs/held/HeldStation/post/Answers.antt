use Rattle.std.proofs.Common.{[], length, map, ap, ◌∙◌, subst}
use Rattle.crossbeam_utils.specs.Padded.{padded_value}
use Rattle.pool_fabric.specs.Seats.{seat_of}
use Rattle.slot_balance.specs.Posts.{Posts}
use Rattle.slot_balance.proofs.Posting.{written}
use Rattle.pool_fabric.proofs.Steps.{posts_written}
use Rattle.pool_fabric.proofs.held.HeldStation.post.Goals as goal

pub invariant_of-self : goal.invariant_of-self
invariant_of-self g c =
    let as_seat = seat_of g.S.Sender.inbox g.S.Sender.number g.S.Sender.sent g.S.Sender.resting in
    let e = c.post_in_place.ensures in
    let padded = c.deref_mut-2.ensures.value in
    let box = c.deref_mut.ensures.value in
    let slice = c.as_mut_slice.ensures.value in
    let desk = c.post_in_place.new.desk in
    let new = c.post_in_place.new.seats in
    let back = written new c.self.inside.seats.items c.self.inside.seats.len (c.post_in_place.auto.seats ∙ ap length slice) c.self.inside.seats.ok.0 in
    posts_written _ _ desk (map as_seat new) _ (ap (map as_seat) back) c.self.invariant (rw (padded, box) at e.same) (rw (padded, box) at e.seats)
    (subst (λ l. Posts (padded_value c.self.inside.desk.value).digits (padded_value c.self.inside.desk.value).number (padded_value c.self.inside.desk.value).cached (map as_seat l) [] desk.cached (map as_seat new)) slice (rw (padded, box) at e.posts))
