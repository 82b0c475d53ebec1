use Rattle.std.proofs.Common.{refl}
use Rattle.pool_jobs.proofs.Bursts.{filled_from, keeps_same}
use Rattle.pool_jobs.proofs.allocator.Allocator.fill.Goals as goal
use Rattle.pool_jobs.proofs.allocator.Allocator.fill.Goals.{in-None, in-Some}

pub returns : goal.returns
returns g c = elim c.match-class_for.branch [
  | in-None w ↦ rw (w.answer-is, w.self-is, w.parcel-is, c.before-call.ensures) ((w.in-None.ensures.class, keeps_same _ _ _ refl (rw c.before-call.ensures at c.class_for.ensures.digits)), refl)
  | in-Some w ↦ rw (w.answer-is, w.self-is, w.parcel-is) (filled_from _ _ _ _ _ _ _ _ w.fill_class-answer.result _ _ c.before-call.ensures w.fill_class-answer.ensures.value w.fill_class-answer.ensures.ends w.places_for-most.ensures.most w.places_for-most.ensures.whole w.in-Some.ensures.class)
]
