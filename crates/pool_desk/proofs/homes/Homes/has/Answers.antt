use Rattle.std.proofs.Common.{◌≢◌, ◌<◌, length, ◌↔◌, IsTrue, [], ◌∙◌, subst}
use Rattle.pool_desk.specs.Homes.{HomeState}
use Rattle.pool_desk.specs.HomesState.{home_at}
use Rattle.pool_desk.proofs.ByClassLaws.{some_joined, joined_some}
use Rattle.pool_desk.proofs.SetLaws.{taken_up}
use Rattle.pool_desk.proofs.homes.Homes.has.Goals as goal

pub returns : goal.returns
returns c =
    let hs = c.self.inside.by_class.items in let k = c.number.result in let l = c.number.ensures.in_range in
    let within : k < length hs = rw c.self.invariant.count l in
    let one = c.index-deref-number.is ∙ taken_up hs c.deref.result.now k c.index-deref-number.result c.deref.ensures.0 within in
    let some : IsTrue c.has.result ↔ ((home_at hs k).slots ≢ []) = subst (λ (g : HomeState). IsTrue c.has.result ↔ (g.slots ≢ [])) one c.has.ensures in
    rw (← c.self.view_is, ← c.number.ensures.value) (
      λ t. some_joined c.self.inside.owner k hs c.self.invariant l (some.0 t),
      λ any. some.1 (joined_some c.self.inside.owner k hs c.self.invariant l any),
    )
