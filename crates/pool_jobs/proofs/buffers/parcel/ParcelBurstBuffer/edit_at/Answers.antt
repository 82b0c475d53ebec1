use Rattle.std.proofs.Common.{map, ap, ◌∙◌}
use Rattle.slot_chain.specs.Filling.{data_of}
use Rattle.slot_chain.specs.Parcels.{ParcelState}
use Rattle.pool_jobs.proofs.Fillings.{fillings_set}
use Rattle.pool_jobs.proofs.buffers.parcel.ParcelBurstBuffer.edit_at.Goals as goal

pub returns-clause-others : goal.returns-clause-others
returns-clause-others g c =
    let edits = c.edit_at.ensures.1 in
    (data_of edits.after, ap (λ (p : ParcelState). map data_of p.items) edits.same ∙ fillings_set _ _ edits.after)
