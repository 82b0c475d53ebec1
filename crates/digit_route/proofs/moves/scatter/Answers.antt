use Rattle.std.proofs.Common.{rules, ◌≡◌, ◌<◌, length, arith, sym}
use Rattle.digit_route.specs.Digits.{digit}
use Rattle.digit_route.proofs.MoveLaws.{popped}
use Rattle.digit_route.proofs.RowLaws.{Scatters-start, Scatters-step, Scatters-items, Scatters-count}
use Rattle.digit_route.proofs.moves.scatter.Goals as goal

pub loop-item-init : goal.loop-item-init
loop-item-init c = Scatters-start _ _ _ _

pub push_at-requires : goal.push_at-requires
push_at-requires c =
    let len = c.loop-item.invariant.len in
    omega (arith, c.digit-k.ensures.high, c.requires, len)

pub loop-item-smaller : goal.loop-item-smaller
loop-item-smaller c = popped _ _ _ c.in-Some.ensures

pub loop-item-preserved : goal.loop-item-preserved
loop-item-preserved c =
    let len = c.loop-item.invariant.len in
    let room : c.digit-k.result < length c.loop-item.magazines.items = omega (arith, c.digit-k.ensures.high, c.requires, len) in
    let here : digit c.args.digits c.in-Some.item.owner c.args.round ≡ c.digit-k.result = rw (← c.owner.ensures.value) (sym c.digit-k.ensures.value) in
    rw c.push_at.ensures (Scatters-step _ _ _ _ _ _ _ _ _ _ _ c.loop-item.invariant c.in-Some.ensures here room (search rules))

pub returns-clause-by_digit : goal.returns-clause-by_digit
returns-clause-by_digit c = c.loop-item.invariant.by_digit

pub returns-clause-items : goal.returns-clause-items
returns-clause-items c = Scatters-items _ _ _ _ _ _ _ c.loop-item.invariant c.in_default.ensures.0

pub returns-clause-count : goal.returns-clause-count
returns-clause-count c = Scatters-count _ _ _ _ _ _ _ c.loop-item.invariant c.in_default.ensures.0

pub returns-clause-len : goal.returns-clause-len
returns-clause-len c = c.loop-item.invariant.len
