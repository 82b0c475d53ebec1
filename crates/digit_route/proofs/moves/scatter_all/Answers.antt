use Rattle.std.proofs.lemmas.Bool.{false≢true}
use Rattle.digit_route.proofs.MoveLaws.{Pours-start, Pours-step, Pours-items, none_left, popped}
use Rattle.digit_route.proofs.moves.scatter_all.Goals as goal

pub loop-magazine-init : goal.loop-magazine-init
loop-magazine-init c = Pours-start _ _ _ _

pub loop-magazine-smaller : goal.loop-magazine-smaller
loop-magazine-smaller c = popped _ _ _ c.in-Some.ensures.items

pub loop-magazine-preserved : goal.loop-magazine-preserved
loop-magazine-preserved c =
    Pours-step _ _ _ _ _ _ _ _ _ c.loop-magazine.invariant c.in-Some.ensures.items c.scatter-moved.ensures.len c.scatter-moved.ensures.by_digit c.scatter-moved.ensures.items

pub returns-clause-by_digit : goal.returns-clause-by_digit
returns-clause-by_digit c = c.loop-magazine.invariant.by_digit

pub returns-clause-items : goal.returns-clause-items
returns-clause-items c = Pours-items _ _ _ _ _ _ c.loop-magazine.invariant (none_left _ (λ l. false≢true (c.in_default.ensures.variant.1 l)))

pub returns-clause-len : goal.returns-clause-len
returns-clause-len c = c.loop-magazine.invariant.len
