use Rattle.std.proofs.Common.{◌≢◌, [], ◌∷◌, ◌++◌, sym, ap, ◌∙◌, subst}
use Rattle.std.proofs.lemmas.List.Elements.{All-nil}
use Rattle.std.proofs.lemmas.List.{append_assoc}
use Rattle.pool_fabric.specs.Stations.{StationState}
use Rattle.pool_fabric.specs.Faults.{LacksNumber}
use Rattle.pool_fabric.proofs.Lacking.{lacks_moved}
use Rattle.pool_fabric.proofs.found.all_of.Goals as goal

pub loop-station-preserved : goal.loop-station-preserved
loop-station-preserved g c = record {
  numbers = λ a l m.
      let r =
      lacks_moved a c.loop-station.stations.items c.get.new.self c.in-Some.station c.adopt.result (ap (λ (s : StationState). s.desk.number) c.adopt.ensures)
      (subst (λ xs. LacksNumber a xs) c.in_ok-push.ensures.items l) m in
      c.loop-station.invariant.numbers a r.0 (subst (λ xs. LacksNumber a xs) (sym c.in-Some.ensures) r.1);
  held =
      let i = c.loop-station.invariant.held in (
        i.0 ++ c.adopt.result ∷ [],
        c.in_ok-push.ensures.items ∙ ap (λ xs. xs ++ c.adopt.result ∷ []) i.1 ∙ append_assoc c.args.held.items i.0 (c.adopt.result ∷ []),
      );
}

pub returns-clause-numbers : goal.returns-clause-numbers
returns-clause-numbers g c = λ a l. c.loop-station.invariant.numbers a l (subst (λ xs. LacksNumber a xs) (sym c.in_default.ensures.0) (All-nil (λ (s : StationState). s.desk.number ≢ a)))
