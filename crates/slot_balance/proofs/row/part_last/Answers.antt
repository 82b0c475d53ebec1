use Rattle.std.proofs.Common.{[], ◌∷◌, ◌++◌, List, length, map, sym, ap, ◌∙◌, subst, arith, append_assoc}
use Rattle.std.specs.Prelude.{slice_get}
use Rattle.slot_balance.specs.Seats.{SeatState, seat_of, AreParted}
use Rattle.slot_balance.proofs.Rows.{get_seam, map-snoc, parted_more}
use Rattle.slot_balance.proofs.row.part_last.Goals as goal

pub unreachable-requires : goal.unreachable-requires
unreachable-requires g c =
    let done = c.loop-row.yielded in
    let joined = ap (λ l. done ++ l) (sym c.in-Some.ensures.steps.0) ∙ c.loop-row.invariant.joined in
    let here = ap (λ (l : List (List SeatState)). slice_get l (length done)) (sym joined) ∙ get_seam done c.in-Some.row c.next.new.self.rest.items in
    let some = c.requires (length done) c.in-Some.row here in
    let none = ap length c.in_default.ensures in
    omega arith

pub loop-row-preserved : goal.loop-row-preserved
loop-row-preserved g c =
    let as_seat = seat_of g.S.Sender.inbox g.S.Sender.number g.S.Sender.sent g.S.Sender.resting in
    let i = c.loop-row.invariant in
    let done = c.loop-row.yielded in
    let seat = c.in-Some-pop.seat in
    let joined = ap (λ l. done ++ l) (sym c.in-Some.ensures.steps.0) ∙ i.joined in
    rw (c.in_ok-push.ensures.items, c.in_ok-push-2.ensures.items) (record {
      can = tt;
      ends = tt;
      joined = append_assoc done (c.in-Some.row ∷ []) c.next.new.self.rest.items ∙ joined;
      parted = subst (λ l. AreParted (done ++ c.in-Some.row ∷ []) (c.loop-row.others.items ++ c.pop.new.self ∷ []) l) (sym (map-snoc as_seat c.loop-row.last.items seat))
          (parted_more done c.loop-row.others.items (map as_seat c.loop-row.last.items) c.in-Some.row c.pop.new.self (as_seat seat) i.parted c.in-Some-pop.ensures);
    })
