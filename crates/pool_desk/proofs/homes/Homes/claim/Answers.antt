use Rattle.std.proofs.Common.{◌<◌, length, ap, ◌∙◌}
use Rattle.std.specs.List.{flat_map}
use Rattle.pool_desk.specs.Homes.{HomeState}
use Rattle.pool_desk.specs.HomesState.{slots_of_home, HasClass}
use Rattle.pool_desk.proofs.ByClassLaws.{lacking, lacks_joined, claim_keeps, claim_slots, claim_drawn}
use Rattle.pool_desk.proofs.SetLaws.{put_back, put_claimed, put_drawn, taken_up}
use Rattle.pool_desk.proofs.homes.Homes.claim.Goals as goal

pub claim-requires : goal.claim-requires
claim-requires c =
    let hs = c.self.inside.by_class.items in let ds = c.deref_mut.result.now in let k = c.number.result in let l = c.number.ensures.in_range in
    let e = c.deref_mut.ensures.value in let within : k < length hs = rw c.self.invariant.count l in
    let one = taken_up hs ds k c.index-deref_mut-number.result e within in
    let lacks : HasClass k (flat_map slots_of_home hs) → ⊥ = rw (← c.self.view_is, ← c.number.ensures.value) at c.requires in
    ap (λ (g : HomeState). g.slots) one ∙ lacking c.self.inside.owner k hs c.self.invariant l lacks

pub invariant_of-self : goal.invariant_of-self
invariant_of-self c =
    let hs = c.self.inside.by_class.items in let ds = c.deref_mut.result.now in let k = c.number.result in let l = c.number.ensures.in_range in
    let e = c.deref_mut.ensures.value in let within : k < length hs = rw c.self.invariant.count l in
    let one = taken_up hs ds k c.index-deref_mut-number.result e within in
    let n = c.claim.new.self in
    claim_keeps c.self.inside.owner c.args.part k hs (put_back hs ds k n) c.self.invariant l
    (put_claimed hs ds k _ n c.args.part e within one c.claim.ensures.same) (put_drawn hs ds k _ n c.args.part e within one c.claim.ensures.drawn)

pub returns-clause-needed : goal.returns-clause-needed
returns-clause-needed c =
    let hs = c.self.inside.by_class.items in let k = c.number.result in
    let lacks : HasClass k (flat_map slots_of_home hs) → ⊥ = rw (← c.self.view_is, ← c.number.ensures.value) at c.requires in
    rw (← c.self.view_is, ← c.number.ensures.value) (lacks_joined c.self.inside.owner k hs c.self.invariant c.number.ensures.in_range lacks)

pub returns-clause-slots : goal.returns-clause-slots
returns-clause-slots c =
    let hs = c.self.inside.by_class.items in let ds = c.deref_mut.result.now in let k = c.number.result in let l = c.number.ensures.in_range in
    let e = c.deref_mut.ensures.value in let within : k < length hs = rw c.self.invariant.count l in
    let one = taken_up hs ds k c.index-deref_mut-number.result e within in
    let lacks : HasClass k (flat_map slots_of_home hs) → ⊥ = rw (← c.self.view_is, ← c.number.ensures.value) at c.requires in
    let n = c.claim.new.self in
    rw (← c.self.view_is, ← c.number.ensures.value)
    (claim_slots c.self.inside.owner c.args.part k hs (put_back hs ds k n) c.self.invariant l (lacking c.self.inside.owner k hs c.self.invariant l lacks)
    (put_claimed hs ds k _ n c.args.part e within one c.claim.ensures.same))

pub returns-clause-drawn : goal.returns-clause-drawn
returns-clause-drawn c =
    let hs = c.self.inside.by_class.items in let ds = c.deref_mut.result.now in let k = c.number.result in let l = c.number.ensures.in_range in
    let e = c.deref_mut.ensures.value in let within : k < length hs = rw c.self.invariant.count l in
    let one = taken_up hs ds k c.index-deref_mut-number.result e within in
    let n = c.claim.new.self in
    rw (← c.self.view_is, ← c.number.ensures.value)
    (claim_drawn c.self.inside.owner c.args.part k hs (put_back hs ds k n) _ c.self.invariant l
    (put_claimed hs ds k _ n c.args.part e within one c.claim.ensures.same) (put_drawn hs ds k _ n c.args.part e within one c.claim.ensures.drawn))
