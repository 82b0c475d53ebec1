use Rattle.std.proofs.Common.{◌≡◌, ap, ◌∙◌}
use Rattle.slot_chain.specs.Buffer.{Buffer}
use Rattle.pool_desk.specs.HomesState.{HomesState}
use Rattle.pool_desk.proofs.HandleLaws.{All-append_left}
use Rattle.pool_desk.proofs.HomeLaws.{kept_last}
use Rattle.pool_desk.proofs.homes.Homes.keep_all.Goals as goal

pub loop-buf-preserved : goal.loop-buf-preserved
loop-buf-preserved c =
    let h = c.loop-buf.invariant in (
      c.keep.ensures.same ∙ ap (λ (x : HomesState). record x { slots = c.keep.new.self.slots }) h.0,
      kept_last _ _ _ _ c.in-Some.buf (rw c.in-Some.ensures.items at h.1) (rw c.clear.ensures at c.keep.ensures.slots),
      All-append_left (λ (b : Buffer). b.owner ≡ c.args.self.now.owner) _ _ (rw c.in-Some.ensures.items at h.2),
    )
