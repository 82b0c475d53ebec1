use Rattle.std.proofs.Common.{length, sym, ap, ◌∙◌}
use Rattle.pool_fabric.specs.Stations.{StationState}
use Rattle.pool_fabric.specs.Gathered.{GatheredState, taking_of}
use Rattle.slot_balance.proofs.Rows.{map-snoc}
use Rattle.pool_fabric.proofs.Gathers.{adds_keeps}
use Rattle.pool_fabric.proofs.gathered.Gathered.add.Goals as goal

pub invariant_of-result : goal.invariant_of-result
invariant_of-result g c =
    let number = ap (λ (t : StationState). t.desk.number) c.station.view_is in
    let taking = taking_of g.T.Receiver.inbox g.T.Receiver.senders g.T.Receiver.taken in
    rw (c.in_ok-push.ensures.items, c.into_inner-2.ensures, c.into_inner.ensures, c.in_ok-push-2.ensures.items, c.in_ok-push-3.ensures.items, c.new.ensures)
    (adds_keeps _ _ _ _ _ _ _ c.self.invariant c.station.invariant
    (number ∙ c.requires.number.0 ∙ sym (ap (λ (s : GatheredState). length s.rows) c.self.view_is))
    (number ∙ c.requires.number.1 ∙ sym (ap (λ (s : GatheredState). length s.takes) c.self.view_is))
    (ap (λ (s : GatheredState). s.columns) c.self.view_is ∙ c.requires.columns)
    (map-snoc taking c.self.inside.takes.items c.station.inside.take)
    c.join.ensures c.with-lent.ensures c.with-freed.ensures)
