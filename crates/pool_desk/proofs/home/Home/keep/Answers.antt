use Rattle.std.proofs.Common.{◌∷◌, []}
use Rattle.pool_desk.specs.Homes.{LiesIn}
use Rattle.pool_desk.proofs.HomeLaws.{all_one_more, kept_moved, second_more}
use Rattle.pool_desk.proofs.home.Home.keep.Goals as goal

pub invariant_of-self : goal.invariant_of-self
invariant_of-self c =
    let h = c.self.inside in
    let own : LiesIn h.owner h.class c.args.buf = rw (← c.self.view_is) at c.requires in
    (c.self.invariant.0, all_one_more (LiesIn h.owner h.class) _ _ _ c.self.invariant.1 own c.push.ensures, c.self.invariant.2, c.self.invariant.3, c.self.invariant.4, c.self.invariant.5)

pub invariant_of-self-in-Named : goal.invariant_of-self-in-Named
invariant_of-self-in-Named c =
    let h = c.self.inside in
    let own : LiesIn h.owner h.class c.args.buf = rw (← c.self.view_is) at c.requires in
    (c.self.invariant.0, all_one_more (LiesIn h.owner h.class) _ _ _ c.self.invariant.1 own c.store.ensures, c.self.invariant.2, c.self.invariant.3, c.self.invariant.4, c.self.invariant.5)

pub returns-in-Linked-clause-slots : goal.returns-in-Linked-clause-slots
returns-in-Linked-clause-slots c =
    let h = c.self.inside in
    rw (← c.self.view_is) (kept_moved (c.args.buf ∷ []) _ _ _ (second_more h.whole (c.args.buf ∷ []) h.list c.push.new.self c.push.ensures))

pub returns-in-Named-clause-slots : goal.returns-in-Named-clause-slots
returns-in-Named-clause-slots c =
    let h = c.self.inside in
    rw (← c.self.view_is) (kept_moved (c.args.buf ∷ []) _ _ _ (second_more h.whole (c.args.buf ∷ []) h.list c.store.new.self c.store.ensures))
