-- Steps join to runs, and runs are the headline.
use Rattle.std.proofs.Common.{List, [], ◌∷◌, ◌++◌, refl, sym, subst}
use Rattle.pool_machine.specs.declared.request.Request.{Request}
use Rattle.pool_machine.specs.Steps.{Answer, after}
use Rattle.pool_machine.specs.Forwards.{counted, forwards}
use Rattle.pool_machine.specs.Listing.{Listing, Shown}
use Rattle.pool_machine.specs.Headline.{Applies, AppliesAll, ShowsSome, Headline}
use Rattle.pool_machine.proofs.Reached.{run_push, forwards_push}
use Rattle.pool_machine.proofs.Shown.{shown_once}

pub applies_none : (v : Listing) → AppliesAll v [] [] v
applies_none v st count h = (st, refl, h)

pub applies_push : (u v w : Listing) (qs : List Request) (ys : List Answer) (q : Request) (y : Answer) →
    AppliesAll u qs ys v → Applies v q y w → AppliesAll u (qs ++ q ∷ []) (ys ++ y ∷ []) w
applies_push u v w qs ys q y more one st count h =
    let f = more st count h in
    let g = one f.0 (λ s. forwards st qs ys s (count s)) f.2 in (
      after f.0 q y,
      run_push qs ys st f.0 q y f.1 g.1.step.0,
      subst (λ k. Shown w (after f.0 q y) k) (λ i s. sym (forwards_push qs ys st f.0 q y f.1 s (count s)) i)
          (subst (λ x. Shown w x (λ s. counted f.0 q y s (forwards st qs ys s (count s)))) g.1.step.1 g.1.shown),
    )

-- a step leads to lists that show some state
pub shows_next : (v w : Listing) (q : Request) (y : Answer) → Applies v q y w → ShowsSome v → ShowsSome w
shows_next v w q y f s = let g = f s.0 s.1 s.2 in (g.0, _, g.1.shown)

pub headline : (old : Listing) (qs : List Request) (ys : List Answer) (new : Listing) → AppliesAll old qs ys new → Headline old qs ys new
headline old qs ys new f st count h =
    let g = f st count h in
    (g.0, record { run = g.1; shown = g.2; once = shown_once new g.0 (λ s. forwards st qs ys s (count s)) g.2 })
