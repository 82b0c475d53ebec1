use Rattle.std.proofs.Common.{◌≡◌, length, arith}
use Rattle.digit_route.proofs.MoveLaws.{AddsSlots-none, AddsSlots-more, AddsSlots-all, cut_back}
use Rattle.digit_route.proofs.magazines.list_slots.Goals as goal

pub loop-magazine-init : goal.loop-magazine-init
loop-magazine-init c = AddsSlots-none _

pub loop-magazine-preserved : goal.loop-magazine-preserved
loop-magazine-preserved c =
    AddsSlots-more _ _ c.magazine-item.result _ _ _ c.loop-magazine-test.true c.magazine-item.is c.loop-magazine.invariant c.in_default.ensures.ok

pub returns-in-Err-clause-err : goal.returns-in-Err-clause-err
returns-in-Err-clause-err c =
    let h = c.loop-magazine.invariant in
    let start : c.len-start.result ≡ length c.args.slots.now.items = omega (arith, c.len-start.ensures, c.args.slots.now.ok.0) in
    cut_back _ h.added _ _ _ _ h.appended c.in-Err.ensures.err start c.truncate.ensures.items

pub returns-clause-ok : goal.returns-clause-ok
returns-clause-ok c = AddsSlots-all _ _ _ _ c.loop-magazine-test.false c.loop-magazine.invariant
