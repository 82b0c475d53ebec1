use Rattle.std.proofs.Common.{refl, ap, ◌∙◌, subst}
use Rattle.pool_desk.specs.HomesState.{HomesState, HasClass}
use Rattle.pool_desk.specs.Desks.{DeskState}
use Rattle.pool_desk.proofs.desk.Desk.claim_needed.Goals as goal

pub claim-requires : goal.claim-requires
claim-requires c = λ some. c.requires.needed (subst (λ (d : DeskState). HasClass c.args.class d.home) c.self.view_is some)

pub invariant_of-self : goal.invariant_of-self
invariant_of-self c = ap (λ (h : HomesState). h.owner) c.claim.ensures.same ∙ c.self.invariant

pub returns : goal.returns
returns c =
    rw (← c.self.view_is) (record { needed = c.claim.ensures.needed; same = refl; home = c.claim.ensures.slots; drawn = c.claim.ensures.drawn })
