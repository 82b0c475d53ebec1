use Rattle.std.proofs.Common.{ap}
use Rattle.slot_chain.specs.Parcels.{ParcelState}
use Rattle.pool_jobs.proofs.Fillings.{fillings_extend}
use Rattle.pool_jobs.proofs.buffers.parcel.ParcelBurstBuffer.extend_at.Goals as goal

pub returns-then-at-len-clause-appended : goal.returns-then-at-len-clause-appended
returns-then-at-len-clause-appended g c =
    let e = c.extend_at.ensures in
    rw (ap (λ (p : ParcelState). p.items) e.same) (fillings_extend c.args.self.now.items c.args.at c.args.bytes.now c.extend_at.result e.before e.after e.there e.edited)
