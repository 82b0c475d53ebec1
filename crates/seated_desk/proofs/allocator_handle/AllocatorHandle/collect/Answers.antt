use Rattle.std.proofs.Common.{◌<◌, Some, refl, sym, subst, arith}
use Rattle.seated_desk.specs.Kept.{AtStation}
use Rattle.seated_desk.specs.Stats.{CollectsAt}
use Rattle.seated_desk.proofs.allocator_handle.AllocatorHandle.collect.Goals as goal

pub returns : goal.returns
returns c =
    let some : 0 < c.take.result = omega arith in
    subst (λ o. AtStation o (Some c.take.new.self) 0 c.args.self.now (record { station = Some c.take.new.self }) (λ s t. CollectsAt 0 s t)) (sym c.in-Some.is)
    (record {
      keeps = c.take.ensures.keeps;
      came = λ _. (c.take.result, some, c.take.ensures.most, c.take.ensures.counted);
      nothing_came = λ ne. absurd (ne refl);
    })
