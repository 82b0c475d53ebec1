use Rattle.std.proofs.Common.{◌≡◌, All, sym, ◌∙◌}
use Rattle.pool_desk.specs.Homes.{IsReady}
use Rattle.pool_desk.proofs.DeskLaws.{lent_whole}
use Rattle.pool_desk.proofs.HomeLaws.{ready_owner}
use Rattle.pool_desk.proofs.desk.Desk.lend_whole.Goals as goal

pub returns : goal.returns
returns c =
    let w = c.in-Some.whole in
    let i = c.self.inside in
    let found = c.in-Some.ensures.value in
    let each : All (IsReady i.cache.number c.args.class) w.items = rw c.self.invariant at found.1 in
    let asked : c.args.parcel.now.owner ≡ i.cache.number = rw (← c.self.view_is) at c.requires in
    let owner : w.owner ≡ c.args.parcel.now.owner = ready_owner w.owner i.cache.number c.args.class w.items found.0.some c.owner-packed.ensures.packed each ∙ sym asked in
    rw (c.replace-spare.ensures.after, ← c.self.view_is)
    (lent_whole i.cache i.homes c.take_whole.new.self i.worker c.args.most c.args.class c.args.parcel.now w c.places.result
    c.in-Some.ensures.same found.0 each found.2 owner c.places.ensures (c.is_empty.ensures.0 c.if-not-is_empty.false))
