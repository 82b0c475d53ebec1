use Rattle.std.proofs.Common.{◌≡◌, ◌<◌, length, arith, sym, ap, ◌∙◌, get_or, [], All}
use Rattle.std.proofs.lemmas.List.{get_or_default}
use Rattle.slot_chain.specs.Buffer.{Buffer}
use Rattle.digit_route.specs.Digits.{digit}
use Rattle.digit_route.specs.Rows.{IsLeft}
use Rattle.digit_route.proofs.CacheLaws.{IsLeft-back}
use Rattle.digit_route.proofs.KeptLaws.{routed_first}
use Rattle.digit_route.proofs.RowLaws.{IsRow-set, restore_moves}
use Rattle.digit_route.proofs.row.Row.restore.Goals as goal

pub invariant_of-self : goal.invariant_of-self
invariant_of-self c =
    let s = c.self.inside in
    let places = c.self.invariant.by_digit.places in
    let room : c.digit-k.result < length s.magazines.items = omega (arith, places, c.digit-k.ensures.high) in
    let first : s.round ≡ 0 = rw (← c.self.view_is) at c.requires.round in
    let routed = rw (← c.self.view_is) at c.requires.routed in
    let by : All (λ (b : Buffer). digit s.digits b.owner s.round ≡ c.digit-k.result) c.args.magazine =
    rw (first, c.digit-k.ensures.value) (routed_first _ _ _ _ routed) in
    let left : All (IsLeft s.digits s.number s.round) c.args.magazine = rw first (IsLeft-back _ _ _ _ routed) in
    rw c.set_at.ensures (IsRow-set _ _ _ _ _ _ room c.self.invariant by left)

pub push_all-requires : goal.push_all-requires
push_all-requires c = rw c.requires.round (IsLeft-back _ _ _ _ c.requires.routed)

pub returns-then-is_empty-clause-items : goal.returns-then-is_empty-clause-items
returns-then-is_empty-clause-items c =
    let s = c.self.inside in
    let places = c.self.invariant.by_digit.places in
    let room : c.digit-k.result < length s.magazines.items = omega (arith, places, c.digit-k.ensures.high) in
    let here : c.index-as_slice-k.result ≡ get_or s.magazines.items c.digit-k.result [] =
    c.index-as_slice-k.is ∙ (ap (λ xs. get_or xs c.digit-k.result c.index-as_slice-k.result) c.as_slice.ensures.value ∙ get_or_default _ _ _ _ room) in
    rw (c.set_at.ensures, ← c.self.view_is) (restore_moves _ _ _ room (sym here ∙ c.is_empty.ensures.0 c.if-is_empty.true))
