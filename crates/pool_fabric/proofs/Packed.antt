-- A buffer in a parcel that is edited stays in its slot.
use Rattle.std.proofs.Common.{◌≡◌, ℕ, zero, suc, List, [], ◌∷◌, map, refl, sym, ap, ◌∙◌, Some}
use Rattle.std.specs.Prelude.{Result, Ok, Err, slice_get, slice_set}
use Rattle.slot_chain.specs.Buffer.{Buffer}
use Rattle.slot_chain.specs.Filling.{Extends}
use Rattle.slot_chain.specs.declared.error.Full.{Full}
use Rattle.slot_chain.specs.Slots.{slot_of}

pub same_slots : (items : List Buffer) (i : ℕ) (before after : Buffer) → slice_get items i ≡ Some before → after.slot ≡ before.slot
    → map slot_of (slice_set items i after) ≡ map slot_of items
same_slots [] i b a e s = refl
same_slots (x ∷ xs) zero b a e s = let is : x ≡ b = cc in ap (λ z. z ∷ map slot_of xs) (s ∙ sym (ap slot_of is))
same_slots (x ∷ xs) (suc i) b a e s = ap (λ r. slot_of x ∷ r) (same_slots xs i b a e s)

pub same_slot : (old : Buffer) (bs : List ℕ) (r : Result (Unit {0}) Full) (new : Buffer) → Extends old bs r new
    → new.slot ≡ old.slot
same_slot old bs (Ok _) new e = ap (λ (b : Buffer). b.slot) e.same
same_slot old bs (Err _) new e = ap (λ (b : Buffer). b.slot) e.1
