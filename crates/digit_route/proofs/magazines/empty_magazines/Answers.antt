use Rattle.std.proofs.Common.{◌≡◌, arith}
use Rattle.std.proofs.lemmas.List.{replicate_more}
use Rattle.digit_route.proofs.magazines.empty_magazines.Goals as goal

pub loop-i-preserved : goal.loop-i-preserved
loop-i-preserved c = rw (c.push.ensures.items, c.loop-i.invariant, c.new.ensures) (replicate_more _ _)

pub returns : goal.returns
returns c =
    let all : c.loop-i.i ≡ c.args.n = omega (arith, c.loop-i-test.false, c.loop-i.auto.i-end) in
    rw (← all) c.loop-i.invariant
