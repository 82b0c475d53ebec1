-- A run keeps the numbers of its pool, and its answers fix the state that it leads to.
use Rattle.std.proofs.Common.{◌≡◌, List, [], ◌∷◌, Ok, Err, refl, sym, ◌∙◌, subst}
use Rattle.pool_machine.specs.declared.request.Request.{Request}
use Rattle.pool_machine.specs.declared.request.Request.TheVariants.{Adopt, Retire, Claim, Alloc, Free, Send, Link, Take}
use Rattle.pool_machine.specs.declared.reply.Reply.TheVariants.{Chunk, Slot as Lent}
use Rattle.pool_machine.specs.State.{State}
use Rattle.pool_machine.specs.Steps.{Answer, Run, after}
use Rattle.pool_machine.specs.Laws.{HasSameNumbers}

same : (st : State) → HasSameNumbers st st
same st = record { desks = refl; chunks = refl; digits = refl; limit = refl }

pub after_numbers : (st : State) (q : Request) (y : Answer) → HasSameNumbers st (after st q y)
after_numbers st q (Err r) = same st
after_numbers st (Adopt a x) (Ok r) = record { desks = refl; chunks = refl; digits = refl; limit = refl }
after_numbers st (Retire a) (Ok r) = record { desks = refl; chunks = refl; digits = refl; limit = refl }
after_numbers st (Claim a c) (Ok (Chunk k)) = record { desks = refl; chunks = refl; digits = refl; limit = refl }
after_numbers st (Claim a c) (Ok _) = same st
after_numbers st (Alloc a n) (Ok (Lent s)) = record { desks = refl; chunks = refl; digits = refl; limit = refl }
after_numbers st (Alloc a n) (Ok _) = same st
after_numbers st (Free a pair) (Ok r) = record { desks = refl; chunks = refl; digits = refl; limit = refl }
after_numbers st (Send a t) (Ok r) = record { desks = refl; chunks = refl; digits = refl; limit = refl }
after_numbers st (Link n) (Ok r) = record { desks = refl; chunks = refl; digits = refl; limit = refl }
after_numbers st (Take b) (Ok r) = record { desks = refl; chunks = refl; digits = refl; limit = refl }

pub run_numbers : (qs : List Request) (ys : List Answer) (old new : State) → Run old qs ys new → HasSameNumbers old new
run_numbers [] [] old new g = subst (HasSameNumbers old) (sym g) (same old)
run_numbers (q ∷ qs) (y ∷ ys) old new g =
    let one = after_numbers old q y in
    let more = run_numbers qs ys (after old q y) new g.1 in
    record { desks = more.desks ∙ one.desks; chunks = more.chunks ∙ one.chunks; digits = more.digits ∙ one.digits; limit = more.limit ∙ one.limit }
run_numbers [] (y ∷ ys) old new g = elim g [ ]
run_numbers (q ∷ qs) [] old new g = elim g [ ]

pub run_fixes : (qs : List Request) (ys : List Answer) (old new new' : State) → Run old qs ys new → Run old qs ys new' → new ≡ new'
run_fixes [] [] old new new' g h = g ∙ sym h
run_fixes (q ∷ qs) (y ∷ ys) old new new' g h = run_fixes qs ys (after old q y) new new' g.1 h.1
run_fixes [] (y ∷ ys) old new new' g h = elim g [ ]
run_fixes (q ∷ qs) [] old new new' g h = elim g [ ]
