use Rattle.std.proofs.Common.{◌≡◌, length, arith, rules}
use Rattle.slot_chain.proofs.Listing.{Lists-more, Lists-all, cut_back}
use Rattle.slot_chain.proofs.walk.add_slots.Goals as goal

pub returns-then-is_err-clause-err : goal.returns-then-is_err-clause-err
returns-then-is_err-clause-err c =
    let h = c.loop-tag.invariant.2 in
    let start : c.len-start.result ≡ length c.args.slots.now.items = omega (arith, c.len-start.ensures, c.args.slots.now.ok.0) in
    cut_back _ h.added _ _ _ _ h.so_far (search rules) start c.truncate.ensures.items

pub loop-tag-preserved : goal.loop-tag-preserved
loop-tag-preserved c =
    let h = c.in-Some.ensures.steps in
    (tt, tt, Lists-more _ _ _ _ _ _ h.0 _ c.loop-tag.invariant.2 h.1 h.2 (search rules))

pub returns-clause-ok : goal.returns-clause-ok
returns-clause-ok c = Lists-all _ _ _ _ c.loop-tag.invariant.2 c.in-None.ensures.steps.0
