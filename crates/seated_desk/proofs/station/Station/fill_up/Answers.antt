use Rattle.std.proofs.Common.{◌<◌, ◌∙◌, sym, arith, ⊎_elim}
use Rattle.seated_desk.proofs.Filled.{adds_one}
use Rattle.seated_desk.proofs.Moved.{onto_one, onto_still}
use Rattle.seated_desk.proofs.station.Station.fill_up.Goals as goal

pub returns-in_err-buf-clause-station : goal.returns-in_err-buf-clause-station
returns-in_err-buf-clause-station c = onto_still _ _ _ _ _ c.loop-lent.invariant.onto c.in_err-buf.ensures.station

pub unreachable-requires : goal.unreachable-requires
unreachable-requires c =
    let i = c.loop-lent.invariant in
    ⊎_elim (λ ne. ne (c.in_ok-buf.ensures.owner ∙ i.onto.station.one.number ∙ sym c.requires ∙ sym i.onto.owner)) (λ full. let t = c.is_full.ensures.1 full in let f = c.if-is_full.false in absurd (cc)) c.in-Err.ensures.2

pub loop-lent-preserved : goal.loop-lent-preserved
loop-lent-preserved c =
    let i = c.loop-lent.invariant in
    let below : c.loop-lent.lent < c.args.count = omega arith in
    record {
      adds = adds_one c.args.size c.loop-lent.lent c.args.parcel.now c.loop-lent.parcel c.push.new.self c.in_ok-buf.buf i.adds c.in-Ok.ensures c.in_ok-buf.ensures.size;
      onto = onto_one _ _ _ _ _ _ c.in_ok-buf.buf i.onto c.in_ok-buf.ensures.station c.in-Ok.ensures;
      most = omega (arith, below);
    }
