-- Of a refusal for want of memory the cause, also in a run.
use Rattle.std.proofs.Common.{◌≡◌, List, [], ◌∷◌, ◌++◌, Err, refl, subst}
use Rattle.pool_machine.specs.declared.request.Request.{Request}
use Rattle.pool_machine.specs.declared.request.Request.TheVariants.{Adopt, Retire, Claim, Alloc, Free, Send, Link, Take}
use Rattle.pool_machine.specs.declared.refusal.Refusal.TheVariants.{NoMemory}
use Rattle.pool_machine.specs.Steps.{Answer}
use Rattle.event_floor.specs.Floors.{FloorState}
use Rattle.event_floor.specs.Steps.{Answers, Refuses}
use Rattle.event_floor.specs.headline.Memory.{LacksOnlyWhereItMay, MayLackMemory}

pub may_lack : (v : FloorState) (q : Request) → Refuses v q NoMemory → MayLackMemory v q
may_lack v (Adopt a worker) r = r
may_lack v (Retire a) r = r
may_lack v (Claim a class) r = r
may_lack v (Alloc a size) r = r
may_lack v (Free a slot) r = r
may_lack v (Send a t) r = tt
may_lack v (Link number) r = r
may_lack v (Take b) r = r

pub may_lack_answered : (v w : FloorState) (q : Request) (y : Answer) → Answers v q y w → y ≡ Err NoMemory → MayLackMemory v q
may_lack_answered v w q y h e = may_lack v q (subst (λ z. Answers v q z w) e h).0

pub lacks_push : (u v w : FloorState) (qs : List Request) (ys : List Answer) (q : Request) (y : Answer) → LacksOnlyWhereItMay u qs ys v → Answers v q y w
    → LacksOnlyWhereItMay u (qs ++ q ∷ []) (ys ++ y ∷ []) w
lacks_push u v w [] [] q y m h = let a = subst (λ x. Answers x q y w) m h in (w, a, may_lack_answered u w q y a, refl)
lacks_push u v w [] (x ∷ ys) q y m h = elim m [ ]
lacks_push u v w (p ∷ qs) [] q y m h = elim m [ ]
lacks_push u v w (p ∷ qs) (x ∷ ys) q y m h = (m.0, m.1, m.2, lacks_push m.0 v w qs ys q y m.3 h)
