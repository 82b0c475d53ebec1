use Rattle.std.proofs.Common.{◌≡◌, ap, ◌∙◌, arith}
use Rattle.slot_chain.specs.Counts.{capped, sizes}
use Rattle.digit_route.specs.Rows.{Row}
use Rattle.digit_route.proofs.CacheLaws.{IsLeft-packed, cache_same}
use Rattle.digit_route.proofs.CounterLaws.{counted_more}
use Rattle.digit_route.proofs.cache.Cache.put_all.Goals as goal

pub append-requires-clause-left : goal.append-requires-clause-left
append-requires-clause-left c =
    let asked = rw (← c.self.view_is) at c.requires in
    rw c.self.invariant.0 (IsLeft-packed _ _ _ _ asked.apart asked.in_range c.owner-known.ensures.packed)

pub invariant_of-self : goal.invariant_of-self
invariant_of-self c =
    let size : c.bytes_total-size.result ≡ capped (sizes c.args.parcel.items) = omega (arith, c.bytes_total-size.ensures, c.bytes_total-size.type_inv) in (
      ap (λ (r : Row). r.round) c.append.ensures.same ∙ c.self.invariant.0,
      c.self.invariant.1,
      counted_more c.self.inside.row.items c.args.parcel.items c.append.new.self.items _ _ _ c.self.invariant.2 size c.append.ensures.items
          c.saturating_add-self-inside.ensures,
    )

pub returns-clause-same : goal.returns-clause-same
returns-clause-same c = rw (← c.self.view_is) (cache_same c.self.inside.row _ _ c.append.ensures.same)
