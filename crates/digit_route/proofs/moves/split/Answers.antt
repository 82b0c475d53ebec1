use Rattle.std.proofs.Common.{◌≡◌}
use Rattle.digit_route.specs.Digits.{common}
use Rattle.digit_route.proofs.MoveLaws.{Parts-taken, Parts-kept, Parts-start, Splits-from, popped}
use Rattle.digit_route.proofs.moves.split.Goals as goal

pub loop-item-init : goal.loop-item-init
loop-item-init c = rw (c.new-nearer.ensures, c.new-others.ensures) (Parts-start _ _ _ _)

pub loop-item-preserved-then-common-near : goal.loop-item-preserved-then-common-near
loop-item-preserved-then-common-near c =
    let is : c.common.result ≡ common c.args.digits c.in-Some.item.owner c.args.t = rw (← c.owner.ensures.value) c.common.ensures.value in
    rw c.push.ensures (Parts-taken _ _ _ _ _ _ _ _ _ c.loop-item.invariant c.in-Some.ensures (rw is at c.if-common-near.true))

pub loop-item-preserved : goal.loop-item-preserved
loop-item-preserved c =
    let is : c.common.result ≡ common c.args.digits c.in-Some.item.owner c.args.t = rw (← c.owner.ensures.value) c.common.ensures.value in
    rw c.push-else-common-near.ensures (Parts-kept _ _ _ _ _ _ _ _ _ c.loop-item.invariant c.in-Some.ensures (rw is at c.if-common-near.false))

pub loop-item-smaller-then-common-near : goal.loop-item-smaller-then-common-near
loop-item-smaller-then-common-near c = popped _ _ _ c.in-Some.ensures

pub loop-item-smaller : goal.loop-item-smaller
loop-item-smaller c = popped _ _ _ c.in-Some.ensures

pub returns : goal.returns
returns c =
    let none = c.in_default.ensures.0 in
    Splits-from _ _ _ _ _ _ (rw none at c.loop-item.invariant)
