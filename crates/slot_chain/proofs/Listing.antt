-- The steps of a walk that lists slots.
use Rattle.std.proofs.Common.{◌≡◌, ℕ, ◌∙◌, List, [], ◌∷◌, ◌++◌, length, map, take, reverse, refl, sym, ap, append_assoc, append-nil, take_at}
use Rattle.std.proofs.lemmas.List.{map-append, reverse-append}
use Rattle.std.proofs.lemmas.List.Sorted.{IsPermutation-reverse}
use Rattle.region_cut.specs.declared.slot.Slot.{Slot}
use Rattle.slot_chain.specs.Buffer.{Buffer}
use Rattle.slot_chain.specs.Slots.{AddsSlots, slot_of}

-- the buffers of `rest` are still to be listed
pub record Lists (old : List Slot) (whole : List Buffer) (new : List Slot) (rest : List Buffer) : Type 0 where
  pub added : List Slot
  pub so_far : new ≡ old ++ added
  pub all : new ++ reverse (map slot_of rest) ≡ old ++ reverse (map slot_of whole)

pub Lists-none : (old : List Slot) (whole : List Buffer) → Lists old whole old whole
Lists-none old whole = record { added = []; so_far = sym (append-nil old); all = refl }

-- the walk shows one buffer more
pub Lists-more : (old : List Slot) (whole : List Buffer) (new next : List Slot) (rest below : List Buffer) (b : Buffer) (s : Slot)
    → Lists old whole new rest → rest ≡ below ++ b ∷ [] → b.slot ≡ s → next ≡ new ++ s ∷ [] → Lists old whole next below
Lists-more old whole new next rest below b s h e is f =
    let slots : map slot_of rest ≡ map slot_of below ++ s ∷ [] =
    ap (map slot_of) e ∙ (map-append slot_of below (b ∷ []) ∙ ap (λ x. map slot_of below ++ x ∷ []) is) in
    let turned : reverse (map slot_of rest) ≡ s ∷ reverse (map slot_of below) =
    ap reverse slots ∙ reverse-append (map slot_of below) (s ∷ []) in
    record {
      added = h.added ++ s ∷ [];
      so_far = f ∙ (ap (λ x. x ++ s ∷ []) h.so_far ∙ append_assoc old h.added (s ∷ []));
      all = ap (λ x. x ++ reverse (map slot_of below)) f ∙ (append_assoc new (s ∷ []) _ ∙ (ap (λ x. new ++ x) (sym turned) ∙ h.all));
    }

pub Lists-all : (old : List Slot) (whole : List Buffer) (new : List Slot) (rest : List Buffer)
    → Lists old whole new rest → rest ≡ [] → AddsSlots (map slot_of whole) old new
Lists-all old whole new rest h e =
    record { added = reverse (map slot_of whole); appended = rw append-nil at (rw e at h.all); each = IsPermutation-reverse (map slot_of whole) }

-- a list of slots is cut back to what it was
pub cut_back : (old added mid now after : List Slot) (n : ℕ) → mid ≡ old ++ added → now ≡ mid → n ≡ length old → after ≡ take n now → after ≡ old
cut_back old added mid now after n e same l f = f ∙ (ap (take n) (same ∙ e) ∙ take_at old added n (sym l))
