use Rattle.pool_desk.proofs.ListedLaws.{homes_listed, homes_done, Adds-none, AddsOn-refused_more}
use Rattle.pool_desk.proofs.by_class.add_all.Goals as goal

pub loop-home-preserved : goal.loop-home-preserved
loop-home-preserved c = homes_listed _ _ _ c.home-item.result _ _ _ c.loop-home-test.true c.home-item.is c.loop-home.invariant c.in_ok-add_slots.ensures

pub loop-home-init : goal.loop-home-init
loop-home-init c = Adds-none _

pub returns-in_err-add_slots : goal.returns-in_err-add_slots
returns-in_err-add_slots c =
    AddsOn-refused_more c.from_residual.result c.add_slots.result _ _ _ _ _ _ c.from_residual.ensures.0 c.loop-home.invariant c.add_slots.ensures

pub returns : goal.returns
returns c = homes_done _ c.args.homes.now c.loop-home.home-index _ _ c.loop-home-test.false c.loop-home.invariant
