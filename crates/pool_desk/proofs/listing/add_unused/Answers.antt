use Rattle.std.proofs.Common.{◌≡◌, ◌+◌, ◌-◌, suc, arith, ◌∙◌}
use Rattle.pool_desk.proofs.ListedLaws.{Adding-next, AddsOn-refused, places_done}
use Rattle.pool_desk.proofs.listing.add_unused.Goals as goal

pub loop-index-preserved : goal.loop-index-preserved
loop-index-preserved c =
    let end = c.given-next.result + c.left.result in
    let one : end - c.loop-index.index ≡ suc (end - (c.loop-index.index + 1)) = let below = c.loop-index-test.true in omega arith in
    rw c.in_ok-push.ensures.items (Adding-next _ (record { chunk = c.chunk-chunk.result; index = c.loop-index.index }) _ _ _ (rw one at c.loop-index.invariant))

pub returns-in_err-push : goal.returns-in_err-push
returns-in_err-push c =
    AddsOn-refused c.from_residual.result _ c.loop-index.invariant.added _ _ c.from_residual.ensures.0 (c.in_err-push.ensures.items ∙ c.loop-index.invariant.so_far)

pub returns : goal.returns
returns c =
    rw (← c.chunk-chunk.ensures, ← c.left.ensures, ← c.given-next.ensures)
    (places_done _ c.chunk-chunk.result c.given-next.result c.left.result c.loop-index.index _ _ c.loop-index-test.false c.loop-index.invariant)
