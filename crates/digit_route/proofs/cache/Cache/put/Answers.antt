use Rattle.std.proofs.Common.{ap, ◌∙◌, ◌≡◌}
use Rattle.slot_chain.specs.Counts.{buffer_size}
use Rattle.digit_route.specs.Rows.{Row}
use Rattle.digit_route.proofs.CacheLaws.{cache_same}
use Rattle.digit_route.proofs.CounterLaws.{counted_one}
use Rattle.digit_route.proofs.cache.Cache.put.Goals as goal

pub invariant_of-self : goal.invariant_of-self
invariant_of-self c =
    let size : c.capacity-size.result ≡ buffer_size c.args.item = c.capacity-size.ensures in (
      ap (λ (r : Row). r.round) c.push.ensures.same ∙ c.self.invariant.0,
      c.self.invariant.1,
      counted_one c.self.inside.row.items c.push.new.self.items c.args.item _ _ _ c.self.invariant.2 size c.push.ensures.items c.saturating_add-self-inside.ensures,
    )

pub returns-clause-same : goal.returns-clause-same
returns-clause-same c = rw (← c.self.view_is) (cache_same c.self.inside.row _ _ c.push.ensures.same)
