use Rattle.std.proofs.Common.{◌≡◌, ◌<◌, length, arith, sym, ap, ◌∙◌, get_or, []}
use Rattle.std.proofs.lemmas.List.{get_or_default}
use Rattle.digit_route.proofs.Joined.{none_joined}
use Rattle.digit_route.proofs.RowLaws.{only_at, own_digits}
use Rattle.digit_route.proofs.row.Row.own_is_empty.Goals as goal

pub returns : goal.returns
returns c =
    let places = c.self.invariant.by_digit.places in
    let room : c.digit-own.result < length c.self.inside.magazines.items = omega (arith, places, c.digit-own.ensures.high) in
    let more = rw (← c.self.view_is) at c.requires in
    let own = own_digits _ _ _ _ more in
    let here : c.index-as_slice-own.result ≡ get_or c.self.inside.magazines.items c.digit-own.result [] =
    c.index-as_slice-own.is ∙ (ap (λ xs. get_or xs c.digit-own.result c.index-as_slice-own.result) c.as_slice.ensures.value ∙ get_or_default _ _ _ _ room) in
    rw (← c.self.view_is) (
      (λ t. only_at _ _ _ _ c.self.invariant.by_digit (rw (← c.digit-own.ensures.value) at own) (sym here ∙ c.is_empty.ensures.0 t)),
      (λ e. c.is_empty.ensures.1 (here ∙ none_joined _ e _ room)),
    )
