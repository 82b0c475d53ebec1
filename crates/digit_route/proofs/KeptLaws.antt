-- Batches that are held as they are, and how they go back.
use Rattle.std.proofs.Common.{◌≡◌, ℕ, ◌<◌, List, [], ◌∷◌, ◌++◌, length, refl, ap, ◌∙◌, arith, append_assoc, append-nil, length-append, All, IsPermutation}
use Rattle.std.specs.Prelude.{Option, Some, None}
use Rattle.std.proofs.lemmas.List.Concat.{flat_map-append}
use Rattle.std.proofs.lemmas.List.Elements.{All-head, All-weaker}
use Rattle.std.proofs.lemmas.List.Sorted.{IsPermutation-trans, IsPermutation-append_left, IsPermutation-append_right, IsPermutation-append_comm}
use Rattle.slot_chain.specs.Buffer.{Buffer}
use Rattle.digit_route.specs.Digits.{Scheme, digit, common}
use Rattle.digit_route.specs.Kept.{IsKept, batch_items, kept_items}
use Rattle.digit_route.specs.Route.{IsCached, IsWellRouted}
use Rattle.digit_route.specs.Rows.{IsLeft}
use Rattle.digit_route.specs.States.{BatchState}
use Rattle.digit_route.proofs.CacheLaws.{IsLeft-back}
use Rattle.digit_route.proofs.RowLaws.{own_digits}

-- a batch is never empty
pub routed_some : (s : Scheme) (a t : ℕ) (items : List Buffer) → IsWellRouted s a t items → 0 < length items
routed_some s a t items h = let l = h.owned.2 in omega (arith, l)

-- its owners have the first digit of its address
pub routed_first : (s : Scheme) (a t : ℕ) (items : List Buffer) → IsWellRouted s a t items → All (λ (b : Buffer). digit s b.owner 0 ≡ digit s t 0) items
routed_first s a t items h =
    own_digits s t 0 items
    (All-weaker (λ (b : Buffer). common s b.owner a < common s b.owner t) (λ (b : Buffer). 0 < common s b.owner t) (λ b l. omega arith) items h.nearer)

-- its buffers may be in its sender's cache
pub routed_cached : (s : Scheme) (a t : ℕ) (items : List Buffer) → IsWellRouted s a t items → All (IsCached s a) items
routed_cached s a t items h = All-weaker (IsLeft s a 0) (IsCached s a) (λ b l. l.cached) items (IsLeft-back s a t items h)

-- where no buffer is held, no batch is
pub none_kept : (s : Scheme) (a : ℕ) (bs : List (Option BatchState)) (xs : List Buffer) → All (IsKept s a) bs → kept_items bs ++ xs ≡ [] → bs ≡ []
none_kept s a [] xs h e = refl
none_kept s a (None ∷ bs) xs h e = absurd (All-head (IsKept s a) None bs h)
none_kept s a (Some b ∷ bs) xs h e =
    let kept = All-head (IsKept s a) (Some b) bs h in
    let some = routed_some s a b.address b.items kept.2 in
    let none : length ((b.items ++ kept_items bs) ++ xs) ≡ 0 = ap length e in
    absurd (omega (arith, some, none, length-append (b.items ++ kept_items bs) xs, length-append b.items (kept_items bs)))

-- one batch more
pub kept_more : (bs : List (Option BatchState)) (b : Option BatchState) → kept_items (bs ++ b ∷ []) ≡ kept_items bs ++ batch_items b
kept_more bs b = flat_map-append batch_items bs (b ∷ []) ∙ ap (λ xs. kept_items bs ++ xs) (append-nil (batch_items b))

pub keep_moves : (bs : List (Option BatchState)) (xs : List Buffer) (b : BatchState)
    → IsPermutation ((kept_items bs ++ xs) ++ b.items) (kept_items (bs ++ Some b ∷ []) ++ xs)
keep_moves bs xs b =
    let kept = kept_items bs in
    let turn : IsPermutation (kept ++ (xs ++ b.items)) (kept ++ (b.items ++ xs)) = IsPermutation-append_right kept _ _ (IsPermutation-append_comm xs b.items) in
    rw (kept_more bs (Some b), append_assoc kept xs b.items, append_assoc kept b.items xs) turn

-- the last of the second list are put to the first
pub put_last : (old xs ys below more new : List Buffer) → IsPermutation old (xs ++ ys) → ys ≡ below ++ more → IsPermutation (xs ++ more) new
    → IsPermutation old (new ++ below)
put_last old xs ys below more new h e p =
    let turn : IsPermutation (xs ++ (below ++ more)) (xs ++ (more ++ below)) = IsPermutation-append_right xs _ _ (IsPermutation-append_comm below more) in
    let put : IsPermutation ((xs ++ more) ++ below) (new ++ below) = IsPermutation-append_left below _ _ p in
    IsPermutation-trans _ _ _ (rw e at h) (IsPermutation-trans _ _ _ turn (rw append_assoc at put))

-- two lists were added in turn
pub added_twice : (old xs ys all mid new : List Buffer) → IsPermutation (old ++ xs) mid → IsPermutation (mid ++ ys) new → xs ++ ys ≡ all
    → IsPermutation (old ++ all) new
added_twice old xs ys all mid new p q e =
    rw (← e, ← append_assoc old xs ys) (IsPermutation-trans _ _ _ (IsPermutation-append_left ys _ _ p) q)
