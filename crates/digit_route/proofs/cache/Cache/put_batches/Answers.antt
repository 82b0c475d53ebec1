use Rattle.std.proofs.Common.{◌≡◌, [], ◌∷◌, ◌++◌, ap, ◌∙◌}
use Rattle.std.specs.Prelude.{Some, None}
use Rattle.std.proofs.lemmas.List.Elements.{All-head}
use Rattle.digit_route.specs.Kept.{IsKept, kept_items}
use Rattle.digit_route.specs.States.{CacheState}
use Rattle.digit_route.proofs.Joined.{All-append_left, All-append_right}
use Rattle.digit_route.proofs.KeptLaws.{kept_more, put_last}
use Rattle.digit_route.proofs.cache.Cache.put_batches.Goals as goal

pub loop-kept-preserved-in-Some-kept : goal.loop-kept-preserved-in-Some-kept
loop-kept-preserved-in-Some-kept c =
    let h = c.loop-kept.invariant in
    let rest = c.pop.new.self.items in
    let b = Some c.in-Some-kept.batch in
    let parts : c.loop-kept.batches.items ≡ rest ++ b ∷ [] = rw c.in-Some-kept.is at c.in-Some.ensures.items in
    record {
      same = c.put_back.ensures.same ∙ ap (λ (x : CacheState). record x { items = c.put_back.new.self.items }) h.same;
      kept = All-append_left (IsKept c.args.self.now.digits c.args.self.now.number) rest (b ∷ []) (rw parts at h.kept);
      items = put_last _ _ _ _ _ _ h.items (ap kept_items parts ∙ kept_more rest b) c.put_back.ensures.items;
    }

-- each that is popped is a batch
pub loop-kept-preserved : goal.loop-kept-preserved
loop-kept-preserved c =
    let rest = c.pop.new.self.items in
    let parts : c.loop-kept.batches.items ≡ rest ++ None ∷ [] = rw c.in_default-kept.is at c.in-Some.ensures.items in
    let kept = rw parts at c.loop-kept.invariant.kept in
    absurd (All-head (IsKept c.args.self.now.digits c.args.self.now.number) None []
    (All-append_right (IsKept c.args.self.now.digits c.args.self.now.number) rest (None ∷ []) kept))
