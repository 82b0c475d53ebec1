use Rattle.std.proofs.Common.{◌≡◌, List, [], ◌∷◌, ◌++◌, append_assoc, append-nil, IsPermutation}
use Rattle.std.proofs.lemmas.List.Sorted.{IsPermutation-trans, IsPermutation-append_right, IsPermutation-append_comm}
use Rattle.slot_chain.specs.Buffer.{Buffer}
use Rattle.digit_route.proofs.MoveLaws.{popped}
use Rattle.digit_route.proofs.refused.link_all.Goals as goal

-- the last of the second list becomes the last of the first
moved : (old xs ys below : List Buffer) (b : Buffer) → IsPermutation old (xs ++ ys) → ys ≡ below ++ b ∷ [] → IsPermutation old ((xs ++ b ∷ []) ++ below)
moved old xs ys below b h e =
    let turn : IsPermutation (xs ++ (below ++ b ∷ [])) (xs ++ (b ∷ [] ++ below)) = IsPermutation-append_right xs _ _ (IsPermutation-append_comm below (b ∷ [])) in
    rw append_assoc (IsPermutation-trans _ _ _ (rw e at h) turn)

pub loop-buf-smaller : goal.loop-buf-smaller
loop-buf-smaller c = popped _ _ _ c.in-Some.ensures

pub loop-buf-preserved : goal.loop-buf-preserved
loop-buf-preserved c = rw c.push.ensures (moved _ _ _ _ _ c.loop-buf.invariant c.in-Some.ensures)

pub returns : goal.returns
returns c = rw append-nil at (rw c.in_default.ensures.0 at c.loop-buf.invariant)
