use Rattle.std.proofs.Common.{◌≢◌, ◌<◌, length, ◌↔◌, IsTrue, [], ◌∙◌, subst}
use Rattle.pool_desk.specs.Homes.{HomeState}
use Rattle.pool_desk.specs.HomesState.{home_at}
use Rattle.pool_desk.proofs.ByClassLaws.{chunk_told}
use Rattle.pool_desk.proofs.SetLaws.{taken_up}
use Rattle.pool_desk.proofs.homes.Homes.has_drawn.Goals as goal

pub returns : goal.returns
returns c =
    let hs = c.self.inside.by_class.items in let k = c.number.result in let l = c.number.ensures.in_range in
    let within : k < length hs = rw c.self.invariant.count l in
    let one = c.index-deref-number.is ∙ taken_up hs c.deref.result.now k c.index-deref-number.result c.deref.ensures.0 within in
    let some : IsTrue c.has_drawn.result ↔ ((home_at hs k).drawn ≢ []) = subst (λ (g : HomeState). IsTrue c.has_drawn.result ↔ (g.drawn ≢ [])) one c.has_drawn.ensures in
    rw (← c.self.view_is, ← c.number.ensures.value) (chunk_told c.self.inside.owner k hs c.has_drawn.result c.self.invariant l some)
