-- Lists of slots, one element longer.
use Rattle.std.proofs.Common.{◌≡◌, ℕ, ◌+◌, ◌<◌, List, [], ◌∷◌, ◌++◌, length, get_or, map, take, sym, ap, ◌∙◌, subst, append-nil, IsPermutation}
use Rattle.std.specs.List.{flat_map}
use Rattle.std.proofs.lemmas.List.{map-append, take_more}
use Rattle.std.proofs.lemmas.List.Concat.{flat_map-append}
use Rattle.std.proofs.lemmas.List.Sorted.{IsPermutation-append}
use Rattle.region_cut.specs.declared.slot.Slot.{Slot}
use Rattle.slot_chain.specs.Slots.{AddsSlots, slot_of}
use Rattle.event_floor.specs.Inboxes.{QueuedState, buffers_in}

-- the pieces of the elements up to and with the i-th
flat_more : {X Y : Type 0} (f : X → List Y) (xs : List X) (i : ℕ) (x : X) → i < length xs → x ≡ get_or xs i x
    → flat_map f (take (i + 1) xs) ≡ flat_map f (take i xs) ++ f x
flat_more f xs i x l read =
    ap (flat_map f) (take_more xs i x l) ∙ (flat_map-append f (take i xs) (get_or xs i x ∷ []) ∙ ap (λ z. flat_map f (take i xs) ++ z) (append-nil (f (get_or xs i x)) ∙ ap f (sym read)))

pub listed_more : (ps : List QueuedState) (i : ℕ) (p : QueuedState) (slots slots' : List Slot) → i < length ps → p ≡ get_or ps i p
    → IsPermutation (map slot_of (buffers_in (take i ps))) slots → AddsSlots (map slot_of p.buffers) slots slots' → IsPermutation (map slot_of (buffers_in (take (i + 1) ps))) slots'
listed_more ps i p slots slots' l read h a =
    let all : map slot_of (buffers_in (take (i + 1) ps)) ≡ map slot_of (buffers_in (take i ps)) ++ map slot_of p.buffers =
    ap (map slot_of) (flat_more (λ (p : QueuedState). p.buffers) ps i p l read) ∙ map-append slot_of (buffers_in (take i ps)) p.buffers in
    subst (λ z. IsPermutation z slots') (sym all)
    (subst (λ z. IsPermutation (map slot_of (buffers_in (take i ps)) ++ map slot_of p.buffers) z) (sym a.appended)
    (IsPermutation-append (map slot_of (buffers_in (take i ps))) slots (map slot_of p.buffers) a.added h a.each))
