use Rattle.pool_fabric.proofs.Steps.{claims_keeps, same_page, claims_part}
use Rattle.pool_fabric.proofs.held.HeldStation.claim.Goals as goal

pub invariant_of-self : goal.invariant_of-self
invariant_of-self g c = same_page _ _ _ c.self.invariant c.in_default.ensures.page

pub invariant_of-self-2 : goal.invariant_of-self-2
invariant_of-self-2 g c = claims_keeps _ _ c.in-Some.part c.args.class _ _ c.self.invariant (rw (c.deref_mut-3.ensures.value, c.deref_mut-2.ensures.value) at c.claim_needed.ensures) c.in-Some.ensures.page

pub returns : goal.returns
returns g c = rw (← c.self.view_is) (claims_part _ _ _ _ _ (rw (c.deref_mut-3.ensures.value, c.deref_mut-2.ensures.value) at c.claim_needed.ensures) c.in-Some.ensures.page)
