use Rattle.std.proofs.Common.{◌<◌, length, ◌≡◌, [], ◌∷◌, sym, ap, ◌∙◌, subst}
use Rattle.std.proofs.lemmas.List.Elements.{All-cons, All-nil}
use Rattle.pool_desk.specs.Homes.AtHome.{Kept}
use Rattle.pool_desk.specs.Homes.{HomeState, IsAtHome, LiesIn}
use Rattle.pool_desk.specs.HomesState.{HomesState}
use Rattle.pool_desk.proofs.ByClassLaws.{keep_keeps, keep_slots, keep_shown, own_kept}
use Rattle.pool_desk.proofs.SetLaws.{put_back, put_kept, put_keeps, taken_up}
use Rattle.pool_desk.proofs.homes.Homes.keep.Goals as goal

pub keep-requires : goal.keep-requires
keep-requires c =
    let hs = c.self.inside.by_class.items in let ds = c.deref_mut.result.now in let k = c.number.result in let l = c.number.ensures.in_range in
    let e = c.deref_mut.ensures.value in let within : k < length hs = rw c.self.invariant.count l in
    let one = taken_up hs ds k c.index-deref_mut-number.result e within in
    let owner : c.args.buf.owner ≡ c.self.inside.owner = c.requires.owner ∙ ap (λ (h : HomesState). h.owner) (sym c.self.view_is) in
    let class : c.args.buf.class ≡ k = sym c.class-class.ensures ∙ sym c.number.ensures.value in
    subst (λ (g : HomeState). LiesIn g.owner g.class c.args.buf) (sym one)
    (own_kept c.self.inside.owner k hs c.args.buf c.self.invariant l owner class c.requires.empty)

pub invariant_of-self : goal.invariant_of-self
invariant_of-self c =
    let hs = c.self.inside.by_class.items in let ds = c.deref_mut.result.now in let k = c.number.result in let l = c.number.ensures.in_range in
    let e = c.deref_mut.ensures.value in let within : k < length hs = rw c.self.invariant.count l in
    let one = taken_up hs ds k c.index-deref_mut-number.result e within in
    let owner : c.args.buf.owner ≡ c.self.inside.owner = c.requires.owner ∙ ap (λ (h : HomesState). h.owner) (sym c.self.view_is) in
    let class : c.args.buf.class ≡ k = sym c.class-class.ensures ∙ sym c.number.ensures.value in
    let n = c.keep.new.self in
    keep_keeps c.self.inside.owner k hs (put_back hs ds k n) (Kept c.args.buf ∷ []) c.self.invariant l (All-cons (IsAtHome c.self.inside.owner k) (Kept c.args.buf) [] (owner, class, c.requires.empty) (All-nil _))
    (put_kept hs ds k _ n e within one c.keep.ensures.same) (put_keeps hs ds k _ n (Kept c.args.buf ∷ []) e within one c.keep.ensures.slots)

pub returns-clause-same : goal.returns-clause-same
returns-clause-same c =
    let hs = c.self.inside.by_class.items in let ds = c.deref_mut.result.now in let k = c.number.result in let l = c.number.ensures.in_range in
    let e = c.deref_mut.ensures.value in let within : k < length hs = rw c.self.invariant.count l in
    let one = taken_up hs ds k c.index-deref_mut-number.result e within in
    let n = c.keep.new.self in
    rw (← c.self.view_is) (keep_shown c.self.inside.owner k hs (put_back hs ds k n) (put_kept hs ds k _ n e within one c.keep.ensures.same))

pub returns-clause-slots : goal.returns-clause-slots
returns-clause-slots c =
    let hs = c.self.inside.by_class.items in let ds = c.deref_mut.result.now in let k = c.number.result in let l = c.number.ensures.in_range in
    let e = c.deref_mut.ensures.value in let within : k < length hs = rw c.self.invariant.count l in
    let one = taken_up hs ds k c.index-deref_mut-number.result e within in
    let n = c.keep.new.self in
    rw (← c.self.view_is)
    (keep_slots c.self.inside.owner k hs (put_back hs ds k n) (Kept c.args.buf ∷ []) c.self.invariant l
    (put_kept hs ds k _ n e within one c.keep.ensures.same) (put_keeps hs ds k _ n (Kept c.args.buf ∷ []) e within one c.keep.ensures.slots))
