use Rattle.std.proofs.Common.{Some, refl, sym, subst}
use Rattle.seated_desk.specs.Kept.{AtStation}
use Rattle.seated_desk.specs.Stats.{FlushesAt}
use Rattle.seated_desk.proofs.allocator_handle.AllocatorHandle.flush.Goals as goal

pub returns : goal.returns
returns c =
    subst (λ o. AtStation o (Some c.post.new.self) 0 c.args.self.now (record { station = Some c.post.new.self }) (λ s t. FlushesAt 0 s t)) (sym c.in-Some.is)
    (record { answer_is = refl; between = c.take.new.self; takes = c.take.ensures.keeps; keeps = c.post.ensures.keeps; posts = c.post.ensures.posts })
