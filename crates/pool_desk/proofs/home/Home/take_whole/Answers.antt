use Rattle.pool_desk.proofs.HomeLaws.{taken_home, taken_ready}
use Rattle.pool_desk.proofs.home.Home.take_whole.Goals as goal

pub returns-clause-value : goal.returns-clause-value
returns-clause-value c =
    let h = c.self.inside in
    rw (← c.self.view_is) (taken_home h.owner h.class c.args.most c.args.places h.whole c.take_fitting.new.self h.list _ _ c.take_fitting.result c.take_fitting.ensures c.self.invariant.2)

pub invariant_of-self : goal.invariant_of-self
invariant_of-self c =
    let h = c.self.inside in
    (c.self.invariant.0, c.self.invariant.1, taken_ready h.owner h.class c.args.most c.args.places h.whole c.take_fitting.new.self c.take_fitting.result c.take_fitting.ensures c.self.invariant.2, c.self.invariant.3, c.self.invariant.4, c.self.invariant.5)
