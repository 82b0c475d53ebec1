use Rattle.std.proofs.Common.{ap, ◌∙◌}
use Rattle.digit_route.specs.Route.{IsCached}
use Rattle.digit_route.specs.States.{CacheState}
use Rattle.digit_route.proofs.Joined.{All-append_left}
use Rattle.digit_route.proofs.KeptLaws.{put_last}
use Rattle.digit_route.proofs.cache.Cache.put_linked.Goals as goal

pub loop-buf-preserved : goal.loop-buf-preserved
loop-buf-preserved c =
    let h = c.loop-buf.invariant in
    record {
      same = c.put.ensures.same ∙ ap (λ (x : CacheState). record x { items = c.put.new.self.items }) h.same;
      cached = All-append_left (IsCached c.args.self.now.digits c.args.self.now.number) _ _ (rw c.in-Some.ensures at h.cached);
      items = put_last _ _ _ _ _ _ h.items c.in-Some.ensures c.put.ensures.items;
    }
