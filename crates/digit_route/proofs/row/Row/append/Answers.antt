use Rattle.std.proofs.Common.{◌≡◌, ◌<◌, length, arith, sym}
use Rattle.digit_route.specs.Digits.{digit}
use Rattle.digit_route.proofs.RowLaws.{IsRow-append, all_digit, append_moves}
use Rattle.digit_route.proofs.row.Row.append.Goals as goal

pub invariant_of-self : goal.invariant_of-self
invariant_of-self c =
    let s = c.self.inside in
    let asked = rw (← c.self.view_is) at c.requires.left in
    let first : s.round ≡ 0 = rw (← c.self.view_is) at c.requires.round in
    let places = c.self.invariant.by_digit.places in
    let room : c.digit-k.result < length s.magazines.items = omega (arith, places, c.digit-k.ensures.high) in
    let here : digit s.digits c.args.parcel.owner s.round ≡ c.digit-k.result = rw (first, ← c.owner.ensures.value) (sym c.digit-k.ensures.value) in
    let h = c.append_at.ensures in
    rw h.2
    (IsRow-append _ _ _ s.magazines.items _ c.args.parcel.items h.0 room c.self.invariant (all_digit _ _ _ _ c.args.parcel.items c.owner.ensures.packed here) asked h.1)

pub returns-clause-items : goal.returns-clause-items
returns-clause-items c =
    let places = c.self.invariant.by_digit.places in
    let room : c.digit-k.result < length c.self.inside.magazines.items = omega (arith, places, c.digit-k.ensures.high) in
    let h = c.append_at.ensures in
    rw (h.2, ← c.self.view_is) (append_moves c.self.inside.magazines.items _ c.args.parcel.items h.0 room h.1)
