use Rattle.std.proofs.Common.{append_assoc}
use Rattle.std.proofs.lemmas.List.Elements.{All-append, All-push}
use Rattle.std.proofs.lemmas.List.Sorted.{All-permutation, IsPermutation-append_right}
use Rattle.digit_route.specs.Kept.{IsKept}
use Rattle.digit_route.specs.Route.{IsCached}
use Rattle.digit_route.proofs.KeptLaws.{keep_moves, routed_cached}
use Rattle.digit_route.proofs.refused.Refused.add.Goals as goal

pub invariant_of-self : goal.invariant_of-self
invariant_of-self c =
    let asked = rw (← c.self.view_is) at c.requires in
    let routed = rw (asked.sender, asked.digits) at c.into_magazine.ensures.routed in
    let mine = rw (← c.into_magazine.ensures.value) at (routed_cached _ _ _ _ routed) in
    let cached = All-append (IsCached c.self.inside.digits c.self.inside.number) _ _ c.self.invariant.1 mine in
    (c.self.invariant.0, All-permutation (IsCached c.self.inside.digits c.self.inside.number) _ _ c.link_all.ensures cached)

pub invariant_of-self-else-is_full : goal.invariant_of-self-else-is_full
invariant_of-self-else-is_full c =
    let asked = rw (← c.self.view_is) at c.requires in
    let routed = rw (asked.sender, asked.digits) at c.address-known.ensures.routed in
    let kept = All-push (IsKept c.self.inside.digits c.self.inside.number) _ _ c.self.invariant.0 (asked.sender, asked.digits, routed) in
    (rw c.push.ensures.items kept, c.self.invariant.1)

pub returns-then-is_full-clause-items : goal.returns-then-is_full-clause-items
returns-then-is_full-clause-items c =
    rw (← c.self.view_is, append_assoc) (IsPermutation-append_right _ _ _ (rw c.into_magazine.ensures.value at c.link_all.ensures))

pub returns-else-is_full-clause-items : goal.returns-else-is_full-clause-items
returns-else-is_full-clause-items c = rw (← c.self.view_is, c.push.ensures.items) (keep_moves c.self.inside.kept.items c.self.inside.linked c.args.batch)
