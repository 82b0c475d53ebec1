use Rattle.std.proofs.Common.{◌<◌, ◌≡◌, All, length, map, ap}
use Rattle.slot_chain.specs.Buffer.{Buffer}
use Rattle.pool_desk.specs.Homes.{AtHome, IsReady}
use Rattle.pool_desk.specs.Homes.AtHome.{Kept}
use Rattle.pool_desk.specs.HomesState.{HomesState}
use Rattle.pool_desk.proofs.HomeLaws.{ready_home}
use Rattle.pool_desk.proofs.ByClassLaws.{keep_keeps, keep_slots, keep_shown}
use Rattle.pool_desk.proofs.SetLaws.{put_back, put_kept, put_keeps, taken_up}
use Rattle.pool_desk.proofs.homes.Homes.keep_whole.Goals as goal

pub invariant_of-self : goal.invariant_of-self
invariant_of-self c =
    let hs = c.self.inside.by_class.items in let ds = c.deref_mut.result.now in let k = c.number.result in let l = c.number.ensures.in_range in
    let e = c.deref_mut.ensures.value in let within : k < length hs = rw c.self.invariant.count l in
    let one = taken_up hs ds k c.index-deref_mut-number.result e within in
    let n = c.keep_whole.new.self in
    let come = map {A = Buffer} {B = AtHome} (λ x. Kept x) c.args.parcel.items in
    let owner : c.self.inside.owner ≡ c.args.self.now.owner = ap (λ (h : HomesState). h.owner) c.self.view_is in
    let each : All (IsReady c.self.inside.owner k) c.args.parcel.items = rw (owner, c.number.ensures.value) c.requires.each in
    keep_keeps c.self.inside.owner k hs (put_back hs ds k n) come c.self.invariant l (ready_home _ _ _ each)
    (put_kept hs ds k _ n e within one c.keep_whole.ensures.same) (put_keeps hs ds k _ n come e within one c.keep_whole.ensures.slots)

pub returns-clause-same : goal.returns-clause-same
returns-clause-same c =
    let hs = c.self.inside.by_class.items in let ds = c.deref_mut.result.now in let k = c.number.result in let l = c.number.ensures.in_range in
    let e = c.deref_mut.ensures.value in let within : k < length hs = rw c.self.invariant.count l in
    let one = taken_up hs ds k c.index-deref_mut-number.result e within in
    let n = c.keep_whole.new.self in
    rw (← c.self.view_is) (keep_shown c.self.inside.owner k hs (put_back hs ds k n) (put_kept hs ds k _ n e within one c.keep_whole.ensures.same))

pub returns-clause-slots : goal.returns-clause-slots
returns-clause-slots c =
    let hs = c.self.inside.by_class.items in let ds = c.deref_mut.result.now in let k = c.number.result in let l = c.number.ensures.in_range in
    let e = c.deref_mut.ensures.value in let within : k < length hs = rw c.self.invariant.count l in
    let one = taken_up hs ds k c.index-deref_mut-number.result e within in
    let n = c.keep_whole.new.self in
    let come = map {A = Buffer} {B = AtHome} (λ x. Kept x) c.args.parcel.items in
    rw (← c.self.view_is)
    (keep_slots c.self.inside.owner k hs (put_back hs ds k n) come c.self.invariant l
    (put_kept hs ds k _ n e within one c.keep_whole.ensures.same) (put_keeps hs ds k _ n come e within one c.keep_whole.ensures.slots))
