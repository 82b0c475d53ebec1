use Rattle.std.proofs.Common.{arith, ◌<◌, ◌∙◌}
use Rattle.digit_route.specs.Digits.{common}
use Rattle.digit_route.proofs.MoveLaws.{Looked-past, Looked-hit, Looked-found, Looked-some, Looked-none}
use Rattle.digit_route.proofs.walks.fault_in.Goals as goal

pub loop-tag-preserved : goal.loop-tag-preserved
loop-tag-preserved c =
    let h = c.in-Some.ensures.steps in
    (tt, tt, Looked-past _ _ _ _ _ _ h.0 _ c.loop-tag.invariant.2 h.1 (λ near. omega (arith, rw h.4 at near)))

pub loop-tag-preserved-then-common-near : goal.loop-tag-preserved-then-common-near
loop-tag-preserved-then-common-near c =
    let h = c.in-Some.ensures.steps in
    let near : common c.args.digits c.args.a c.args.t < common c.args.digits h.0.owner c.args.t = rw h.4 (omega arith) in
    (tt, tt, Looked-hit _ _ _ _ _ _ h.0 _ c.loop-tag.invariant.2 h.1 near (rw h.4 c.if-tag-t.false))

pub returns-then-tag-t : goal.returns-then-tag-t
returns-then-tag-t c =
    let h = c.in-Some.ensures.steps in
    let near : common c.args.digits c.args.a c.args.t < common c.args.digits h.0.owner c.args.t = rw h.4 (omega arith) in
    (c.requires, Looked-found _ _ _ _ _ _ h.0 _ c.loop-tag.invariant.2 h.1 near (h.4 ∙ c.if-tag-t.true))

pub returns-then-found : goal.returns-then-found
returns-then-found c =
    let h = Looked-some _ _ _ _ _ _ c.loop-tag.invariant.2 c.in-None.ensures.steps.0 c.if-found.true in
    (c.requires, h.0, h.1)

pub returns-else-found : goal.returns-else-found
returns-else-found c =
    (c.requires, Looked-none _ _ _ _ _ _ c.loop-tag.invariant.2 c.in-None.ensures.steps.0 c.if-found.false)
