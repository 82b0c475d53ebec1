use Rattle.std.proofs.Common.{◌<◌, length}
use Rattle.pool_desk.proofs.ByClassLaws.{alloc_keeps, alloc_shown}
use Rattle.pool_desk.proofs.SetLaws.{put_back, put_given, put_gives, taken_up}
use Rattle.pool_desk.proofs.homes.Homes.alloc.Goals as goal

pub invariant_of-self : goal.invariant_of-self
invariant_of-self c =
    let hs = c.self.inside.by_class.items in let ds = c.deref_mut.result.now in let k = c.number.result in let l = c.number.ensures.in_range in
    let e = c.deref_mut.ensures.value in let within : k < length hs = rw c.self.invariant.count l in
    let one = taken_up hs ds k c.index-deref_mut-number.result e within in
    let n = c.alloc.new.self in
    alloc_keeps c.self.inside.owner k hs (put_back hs ds k n) c.alloc.result c.self.invariant l
    (put_given hs ds k _ n e within one c.alloc.ensures.same) (put_gives hs ds k _ n c.alloc.result e within one c.alloc.ensures.value)

pub returns-clause-value : goal.returns-clause-value
returns-clause-value c =
    let hs = c.self.inside.by_class.items in let ds = c.deref_mut.result.now in let k = c.number.result in let l = c.number.ensures.in_range in
    let e = c.deref_mut.ensures.value in let within : k < length hs = rw c.self.invariant.count l in
    let one = taken_up hs ds k c.index-deref_mut-number.result e within in
    let n = c.alloc.new.self in
    rw (← c.self.view_is, ← c.number.ensures.value)
    (alloc_shown c.self.inside.owner k hs (put_back hs ds k n) c.alloc.result c.self.invariant l
    (put_given hs ds k _ n e within one c.alloc.ensures.same) (put_gives hs ds k _ n c.alloc.result e within one c.alloc.ensures.value))
