use Rattle.std.proofs.Common.{◌≡◌, ◌≤◌, length, map, sym, ap, ◌∙◌, subst, arith}
use Rattle.std.proofs.lemmas.List.{length-take-le}
use Rattle.std.proofs.lemmas.Option.{get_or_from_slice_get}
use Rattle.slot_chain.specs.Buffer.{Buffer}
use Rattle.slot_chain.specs.Filling.{data_of}
use Rattle.slot_chain.specs.Parcels.{ParcelState}
use Rattle.pool_jobs.proofs.Fillings.{fillings_set}
use Rattle.pool_jobs.proofs.buffers.parcel.ParcelBurstBuffer.set_len_at.Goals as goal

pub returns-clause-filled : goal.returns-clause-filled
returns-clause-filled g c =
    let edits = c.set_len_at.ensures in
    let found = rw c.buffers.ensures at c.index-buffers-at.is in
    let same : edits.before ≡ c.index-buffers-at.result =
    sym (found ∙ get_or_from_slice_get c.args.self.now.items c.args.at edits.before c.index-buffers-at.result edits.there) in
    let is_long = c.if-bytes-len.false in
    let held : c.args.len ≤ length c.bytes-bytes.result.now = omega arith in
    let fits : c.args.len ≤ length edits.before.bytes.now =
    subst (λ (b : Buffer). c.args.len ≤ length b.bytes.now) (sym same) (subst (λ bs. c.args.len ≤ length bs) c.bytes-bytes.ensures.value held) in (
      data_of edits.after,
      ap (λ (b : Buffer). length (data_of b)) edits.edited ∙ length-take-le c.args.len edits.before.bytes.now fits,
      ap (λ (p : ParcelState). map data_of p.items) edits.same ∙ fillings_set _ _ edits.after,
    )
