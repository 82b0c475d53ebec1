use Rattle.std.proofs.Common.{◌≡◌, arith}
use Rattle.std.proofs.lemmas.List.{replicate_more}
use Rattle.link_inbox.proofs.opening.vacant_loads.Goals as goal

pub loop-node-preserved : goal.loop-node-preserved
loop-node-preserved c = rw (c.in_ok-push.ensures.items, c.loop-node.invariant, c.vacant.ensures) (replicate_more _ _)

pub returns : goal.returns
returns c =
    let all : c.loop-node.node ≡ c.args.count = omega (arith, c.loop-node-test.false, c.loop-node.auto.node-end) in
    rw (← all) c.loop-node.invariant
