use Rattle.std.proofs.Common.{◌+◌, [], sym, ap, ◌∙◌, arith}
use Rattle.std.proofs.lemmas.List.{nil_from_length}
use Rattle.pool_fabric.proofs.AllOf.{one_more, none_left, with_the_rest}
use Rattle.pool_fabric.proofs.Lacking.{lacks_before}
use Rattle.pool_fabric.proofs.found.add_all.Goals as goal

pub returns-in_default-clause-fault : goal.returns-in_default-clause-fault
returns-in_default-clause-fault g c = record {
  below = rw c.in-Ok.ensures.missing (omega (arith, c.loop-number-test.true));
  lacks = rw c.in-Ok.ensures.missing (c.loop-number.invariant.lacks c.loop-number.number (omega arith) c.in_default.ensures.0);
  others = [];
  found = with_the_rest _ _ c.loop-number.gathered _ _ _ c.loop-number.invariant.all (rw c.in_default.ensures.1 at c.in-Ok.ensures.found);
}

pub returns-clause-stations : goal.returns-clause-stations
returns-clause-stations g c =
    none_left _ _ _ _ _ (nil_from_length c.loop-number.stations.items (sym c.loop-number.stations.ok.0 ∙ c.in_default-pop.ensures.cases.0)) c.loop-number.invariant.all

pub loop-number-preserved : goal.loop-number-preserved
loop-number-preserved g c =
    let i = c.loop-number.invariant in
    let e = c.in-Ok-add.ensures in
    let more = e.parts in
    let parts = i.parts in
    let number = c.in-Some.ensures.0 in
    record {
      columns = e.columns ∙ i.columns;
      takes = e.takes ∙ ap (λ k. k + 1) i.takes;
      rows = e.rows ∙ ap (λ k. k + 1) i.rows;
      parts = omega arith;
      gave = e.gave ∙ i.gave;
      all = one_more _ _ _ c.in-Some.station _ _ c.in-Some.ensures.1 e i.all;
      lacks = λ a less l.
          i.lacks a (omega arith)
          (lacks_before a c.loop-number.stations.items c.out_of.new.stations.items c.in-Some.station c.in-Some.ensures.1 (λ e. absurd (omega arith)) l);
    }
