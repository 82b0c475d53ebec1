use Rattle.std.proofs.Common.{◌<◌, length}
use Rattle.pool_desk.proofs.ByClassLaws.{keep_shown, take_keeps, take_shown}
use Rattle.pool_desk.proofs.SetLaws.{put_back, put_kept, put_takes, taken_up}
use Rattle.pool_desk.proofs.homes.Homes.take_whole.Goals as goal

pub invariant_of-self : goal.invariant_of-self
invariant_of-self c =
    let hs = c.self.inside.by_class.items in let ds = c.deref_mut.result.now in let k = c.number.result in let l = c.number.ensures.in_range in
    let e = c.deref_mut.ensures.value in let within : k < length hs = rw c.self.invariant.count l in
    let one = taken_up hs ds k c.index-deref_mut-number.result e within in
    let n = c.take_whole.new.self in
    take_keeps c.self.inside.owner c.args.most c.args.places k hs (put_back hs ds k n) c.take_whole.result c.self.invariant l
    (put_kept hs ds k _ n e within one c.take_whole.ensures.same) (put_takes hs ds k _ _ _ n c.take_whole.result e within one c.take_whole.ensures.value)

pub returns-clause-same : goal.returns-clause-same
returns-clause-same c =
    let hs = c.self.inside.by_class.items in let ds = c.deref_mut.result.now in let k = c.number.result in let l = c.number.ensures.in_range in
    let e = c.deref_mut.ensures.value in let within : k < length hs = rw c.self.invariant.count l in
    let one = taken_up hs ds k c.index-deref_mut-number.result e within in
    let n = c.take_whole.new.self in
    rw (← c.self.view_is) (keep_shown c.self.inside.owner k hs (put_back hs ds k n) (put_kept hs ds k _ n e within one c.take_whole.ensures.same))

pub returns-clause-value : goal.returns-clause-value
returns-clause-value c =
    let hs = c.self.inside.by_class.items in let ds = c.deref_mut.result.now in let k = c.number.result in let l = c.number.ensures.in_range in
    let e = c.deref_mut.ensures.value in let within : k < length hs = rw c.self.invariant.count l in
    let one = taken_up hs ds k c.index-deref_mut-number.result e within in
    let n = c.take_whole.new.self in
    rw (← c.self.view_is, ← c.number.ensures.value)
    (take_shown c.self.inside.owner c.args.most c.args.places k hs (put_back hs ds k n) c.take_whole.result c.self.invariant l
    (put_kept hs ds k _ n e within one c.take_whole.ensures.same) (put_takes hs ds k _ _ _ n c.take_whole.result e within one c.take_whole.ensures.value))
