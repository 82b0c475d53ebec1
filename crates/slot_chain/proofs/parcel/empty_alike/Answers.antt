use Rattle.std.proofs.Common.{◌<◌, ◌∙◌, ap, length, map, rules}
use Rattle.std.proofs.lemmas.List.{set-get_or}
use Rattle.slot_chain.specs.Filling.{emptied}
use Rattle.slot_chain.specs.Parcels.{IsOf}
use Rattle.slot_chain.proofs.Emptied.{emptied_front, emptied_more}
use Rattle.slot_chain.proofs.parcel.empty_alike.Goals as goal

pub returns-then-ne : goal.returns-then-ne
returns-then-ne c =
    let l = c.loop-buf in
    ap (map emptied) (set-get_or l.buffers l.buf-index c.buf-item.result) ∙ emptied_front l.buf-index c.args.buffers.now l.buffers l.invariant.0

pub loop-buf-preserved : goal.loop-buf-preserved
loop-buf-preserved c =
    let l = c.loop-buf in
    let within : l.buf-index < length c.args.buffers.now = c.loop-buf-test.true in
    let alike : IsOf c.args.class c.buf-item.result = search rules in
    emptied_more c.args.class _ c.args.buffers.now l.buffers c.buf-item.result _ within l.invariant c.buf-item.is alike (rw (← c.buf-item.is) at c.clear.ensures)
