use Rattle.std.proofs.Common.{ap, sym, ◌∙◌, map-id, arith, rules}
use Rattle.std.proofs.lemmas.Grind.{common_steps}
use Rattle.std.proofs.lemmas.List.Elements.{filter_map-append}
use Rattle.pool_jobs.specs.Counted.{counted_by, stations_of}
use Rattle.std.proofs.lemmas.Iterator.Adapters.{YieldsList-from_vec}
use Rattle.std.proofs.lemmas.Iterator.Consumers.{YieldsList-end}
use Rattle.pool_jobs.proofs.Adding.{counted_more}
use Rattle.pool_jobs.proofs.crew_result.CrewResult.of.Goals as goal

pub loop-outcome-preserved : goal.loop-outcome-preserved
loop-outcome-preserved g c = record {
  counts = counted_more _ _ _ c.loop-outcome.yielded c.in-Some.outcome c.loop-outcome.invariant.counts c.in_ok-more.ensures.counts c.plus-counts.ensures;
  held = grind (arith, common_steps, filter_map-append);
}

pub returns-clause-counts : goal.returns-clause-counts
returns-clause-counts g c =
    let given = YieldsList-from_vec c.args.outcomes.items (search rules) (search rules) in
    let all = YieldsList-end given c.loop-outcome.yielded c.loop-outcome.outcome-iterator c.loop-outcome.yielded_by _ c.next.new.self c.in-None.is c.next.ensures.steps in
    c.loop-outcome.invariant.counts ∙ ap counted_by (sym (map-id c.loop-outcome.yielded) ∙ all.0)

pub returns-clause-held : goal.returns-clause-held
returns-clause-held g c =
    let given = YieldsList-from_vec c.args.outcomes.items (search rules) (search rules) in
    let all = YieldsList-end given c.loop-outcome.yielded c.loop-outcome.outcome-iterator c.loop-outcome.yielded_by _ c.next.new.self c.in-None.is c.next.ensures.steps in
    c.loop-outcome.invariant.held ∙ ap stations_of (sym (map-id c.loop-outcome.yielded) ∙ all.0)
