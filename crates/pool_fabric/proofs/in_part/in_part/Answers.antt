use Rattle.std.proofs.Common.{◌∷◌, ◌++◌, [], sym, ap, ◌∙◌}
use Rattle.std.proofs.lemmas.List.{nil_from_length}
use Rattle.pool_fabric.specs.Stations.{StationState}
use Rattle.pool_fabric.proofs.AllOf.{adds_one, added_all}
use Rattle.pool_fabric.proofs.in_part.in_part.Goals as goal

pub loop-station-preserved : goal.loop-station-preserved
loop-station-preserved g c =
    let left = c.in-Some.ensures.items ∙ ap (λ (s : StationState). c.pop.new.self.items ++ s ∷ []) (sym c.station.view_is) in
    rw (c.in_ok-push.ensures.items, c.into_inner-in-Some.ensures, c.into_inner.ensures, c.with-lent.ensures, c.with-freed.ensures)
    (adds_one c.loop-station.stations.items c.pop.new.self.items _ c.args.gathered c.loop-station.desks.items c.loop-station.lent
    c.loop-station.freed c.args.stations.items left c.loop-station.invariant)

pub returns-clause-found : goal.returns-clause-found
returns-clause-found g c =
    added_all _ _ _ _ _ _ (nil_from_length c.loop-station.stations.items (sym c.loop-station.stations.ok.0 ∙ c.in_default.ensures.cases.0)) c.loop-station.invariant
